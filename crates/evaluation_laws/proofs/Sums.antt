-- The values of printed numbers, products and sums.
use Rattle.std.proofs.Common.{◌≡◌, ℕ, zero, suc, ◌+◌, length, List, [], ◌∷◌, ◌++◌, Bool, true, false, ◌&&◌, arith, refl, sym, ◌∙◌, ap, subst, map, append_assoc, append-nil}
use Rattle.std.specs.Prelude.{◌==◌, nat_le, nat_lt, unsigned_abs, if◌then◌else◌, Result, Ok, Err}
use Rattle.std.specs.Int.{is_negative}
use Rattle.std.specs.Fmt.{decimal, signed_decimal}
use Rattle.std.proofs.Math.IntN.{ℤ, pos, negsuc, neg_ℤ, zero-*ℤ}
use Rattle.std.proofs.lemmas.Int.{ints}
use Rattle.std.proofs.lemmas.Bool.{eqb-true, and_parts}
use Rattle.std.proofs.lemmas.Bool.Decides.{nat_tests}
use Rattle.std.proofs.lemmas.List.{map-append}
use Rattle.clp_rationals.specs.Fraction.{Fraction}
use Rattle.clp_model.proofs.Membership.{Among}
use Rattle.linear_model.specs.Normal.{limit, pairs_within}
use Rattle.clause_laws.proofs.Distinct.{AreDistinct, front_distinct}
use Rattle.frac_model.specs.Reduced.{fraction, sum, product}
use Rattle.frac_model.specs.Results.{is_small}
use Rattle.token_model.specs.declared.fault.Fault.{Fault}
use Rattle.form_model.specs.declared.fault.FormFault.TheVariants.{TooLarge}
use Rattle.form_model.specs.Forms as form
use Rattle.form_model.specs.Forms.{Form, are_small, with_term}
use Rattle.clp_grammar.specs.declared.expression.Operation.TheVariants.{Add, Subtract, Multiply}
use Rattle.clp_grammar.specs.declared.expression.Operator.{Operator}
use Rattle.clp_grammar.specs.declared.expression.Head.TheVariants as head
use Rattle.clp_grammar.specs.declared.expression.Expression.{Expression, Node}
use Rattle.clp_grammar.specs.Expressions.{chained}
use Rattle.clp_grammar.specs.Evaluation.{linear, linear_rest_of, placed, operated, negated, with_value}
use Rattle.clp_grammar.proofs.Parts.{linear_node, linear_number, linear_variable}
use Rattle.print_model.specs.Terms.{variable_text}
use Rattle.print_model.specs.Rows.{product_text, later_terms, later_constant}
use Rattle.standing_model.specs.Terms as standing
use Rattle.standing_model.specs.Rows as rows
use Rattle.standing_model.specs.Rows.{joining, joined_to, later, later_number, operators_of, operands_of}
use Rattle.evaluation_laws.proofs.Wholes.{none, Terms, product_whole, none_and, small_whole, small_more, whole_terms, variables_of, new_term}

abbrev IsSmall : ℤ → Type 0
IsSmall z = nat_le (unsigned_abs z) limit ≡ true

-- ---- forms within the limit

pub both : (a b : Bool) → a ≡ true → b ≡ true → (a && b) ≡ true
both true b e f = f
both false b e f = absurd (cc)

-- a number and terms that are small
pub small_form : (z : ℤ) (ts : Terms) → IsSmall z → are_small ts ≡ true → form.if_small_form (form.form (fraction z 1) ts) ≡ Ok (form.form (fraction z 1) ts)
small_form z ts small few =
    let f = form.form (fraction z 1) ts in
    ap (λ b. if b then Ok f else Err TooLarge) (both (is_small (fraction z 1)) (are_small ts) (small_whole z small) few)

-- ---- what joins an addend to a sum

pub sum_form : (f g : Form) (s : Fraction) (ts : Terms) → sum f.constant g.constant ≡ s → form.with_terms f.terms g.terms ≡ ts → form.sum f g ≡ form.if_small_form (form.form s ts)
sum_form f g s ts e k = ap (λ x. form.if_small_form (form.form x (form.with_terms f.terms g.terms))) e ∙ ap (λ us. form.if_small_form (form.form s us)) k

not_negative : (n : ℕ) → is_negative (pos n) ≡ false
not_negative n = let e : nat_lt n 0 ≡ false = grind (arith, nat_tests) in e

abbrev operator : Bool → ℕ → Operator
operator b left = record { operation = if b then Subtract else Add; left = left }

-- a number
number_joined : (z : ℤ) (left : ℕ) (ts : Terms) → IsSmall z → are_small ts ≡ true
    → operated (record { operation = joining z; left = left }) (form.form none ts) (form.whole (unsigned_abs z)) ≡ Ok (form.form (fraction z 1) ts)
number_joined (pos n) left ts small few =
    ap (λ b. operated (operator b left) (form.form none ts) (form.whole n)) (not_negative n)
    ∙ ap (placed left) (sum_form (form.form none ts) (form.whole n) (fraction (pos n) 1) ts (none_and (pos n)) refl ∙ small_form (pos n) ts small few)
number_joined (negsuc n) left ts small few =
    ap (placed left) (sum_form (form.form none ts) (form.opposite (form.whole (suc n))) (fraction (negsuc n) 1) ts (none_and (negsuc n)) refl ∙ small_form (negsuc n) ts small few)

abbrev one_term : ℕ → ℤ → Form
one_term v z = form.form none ((v, fraction z 1) ∷ [])

-- a new variable
term_joined : (z : ℤ) (left v : ℕ) (ts : Terms) → ¬ Among v (variables_of ts) → are_small (ts ++ (v, fraction z 1) ∷ []) ≡ true
    → operated (record { operation = joining z; left = left }) (form.form none ts) (one_term v (pos (unsigned_abs z))) ≡ Ok (form.form none (ts ++ (v, fraction z 1) ∷ []))
term_joined (pos n) left v ts new few =
    let us = ts ++ (v, fraction (pos n) 1) ∷ [] in
    ap (λ b. operated (operator b left) (form.form none ts) (one_term v (pos n))) (not_negative n)
    ∙ ap (placed left) (sum_form (form.form none ts) (one_term v (pos n)) none us (none_and (pos 0)) (new_term v (fraction (pos n) 1) ts new) ∙ small_form (pos 0) us refl few)
term_joined (negsuc n) left v ts new few =
    let us = ts ++ (v, fraction (negsuc n) 1) ∷ [] in
    ap (placed left) (sum_form (form.form none ts) (form.opposite (one_term v (pos (suc n)))) none us (none_and (pos 0)) (new_term v (fraction (negsuc n) 1) ts new) ∙ small_form (pos 0) us refl few)

-- ---- numbers, variables and products

module _ (number_of place : ℕ → ℕ) where
  abbrev value : Expression → Result Form Fault
  value e = linear number_of e

  abbrev h : ℕ → ℕ
  h n = number_of (place n)

  number_value : (n after : ℕ) → nat_le n limit ≡ true → value (rows.number n after) ≡ Ok (form.whole n)
  number_value n after small = linear_number number_of _ n ∙ ap (placed _) (small_form (pos n) [] small refl)

  variable_value : (n after : ℕ) → value (standing.variable place n after) ≡ Ok (form.variable (h n))
  variable_value n after = linear_variable number_of _ (place n)

  abbrev turned : Bool → Form → Form
  turned b f = if b then form.opposite f else f

  signed_value : (b : Bool) (begin : ℕ) (e : Expression) (f : Form) → value e ≡ Ok f → value (rows.signed b begin e) ≡ Ok (turned b f)
  signed_value true begin e f is = linear_node number_of begin head.Minus (e ∷ []) ∙ ap negated is
  signed_value false begin e f is = is

  abbrev with_sign : Bool → ℕ → ℤ
  with_sign b n = if b then neg_ℤ (pos n) else pos n

  small_sign : (b : Bool) (n : ℕ) → nat_le n limit ≡ true → IsSmall (with_sign b n)
  small_sign true zero small = small
  small_sign true (suc n) small = small
  small_sign false n small = small

  one_product : (z : ℤ) (v left : ℕ) → IsSmall z → operated (record { operation = Multiply; left = left }) (form.form (fraction z 1) []) (form.variable v) ≡ Ok (one_term v z)
  one_product z v left small =
      let zero : product none (fraction z 1) ≡ none = product_whole (pos 0) z ∙ ap (λ y. fraction y 1) (zero-*ℤ z) in
      let one : product (fraction (pos 1) 1) (fraction z 1) ≡ fraction z 1 = product_whole (pos 1) z ∙ ap (λ y. fraction y 1) (omega (arith, ints)) in
      ap (λ s. placed left (form.if_small_form (form.form s ((v, product (fraction (pos 1) 1) (fraction z 1)) ∷ [])))) zero
      ∙ ap (λ s. placed left (form.if_small_form (form.form none ((v, s) ∷ [])))) one
      ∙ ap (placed left) (small_form (pos 0) ((v, fraction z 1) ∷ []) refl (both (is_small (fraction z 1)) true (small_whole z small) refl))

  product_value : (b : Bool) (begin magnitude n after : ℕ) → nat_le magnitude limit ≡ true
      → value (rows.product place b begin magnitude n after) ≡ Ok (one_term (h n) (with_sign b magnitude))
  product_value b begin magnitude n after small = by (magnitude == 1) refl
    where
      v : Expression
      v = standing.variable place n after

      times : ℕ
      times = 1 + (length (variable_text n) + after)

      alone : (c : Bool) → value (rows.signed c begin v) ≡ Ok (one_term (h n) (with_sign c 1))
      alone true = signed_value true begin v (form.variable (h n)) (variable_value n after)
      alone false = variable_value n after

      scaled : (c : Bool) → value (rows.signed c begin (rows.number magnitude times)) ≡ Ok (form.form (fraction (with_sign c magnitude) 1) [])
      scaled true = signed_value true begin (rows.number magnitude times) (form.whole magnitude) (number_value magnitude times small)
      scaled false = number_value magnitude times small

      by : (t : Bool) → (magnitude == 1) ≡ t
          → value (if t then rows.signed b begin v else Node begin (head.Chain (record { operation = Multiply; left = times } ∷ [])) (rows.signed b begin (rows.number magnitude times) ∷ v ∷ []))
          ≡ Ok (one_term (h n) (with_sign b magnitude))
      by true e = alone b ∙ ap (λ m. Ok (one_term (h n) (with_sign b m))) (sym (eqb-true magnitude 1 e))
      by false e =
          let o : Operator = record { operation = Multiply; left = times } in
          let z = with_sign b magnitude in
          linear_node number_of begin (head.Chain (o ∷ [])) (rows.signed b begin (rows.number magnitude times) ∷ v ∷ [])
          ∙ ap (λ r. with_value r (linear_rest_of number_of (o ∷ []) (v ∷ []))) (scaled b)
          ∙ ap (λ r. with_value r (λ g. with_value (operated o (form.form (fraction z 1) []) g) (linear_rest_of number_of [] []))) (variable_value n after)
          ∙ ap (λ r. with_value r (linear_rest_of number_of [] [])) (one_product z (h n) times (small_sign b magnitude small))

  -- ---- sums

  constant_value : (z : ℤ) (after : ℕ) (ts : Terms) → IsSmall z → are_small ts ≡ true
      → linear_rest_of number_of (operators_of (later_number z after)) (operands_of (later_number z after)) (form.form none ts) ≡ Ok (form.form (fraction z 1) ts)
  constant_value z after ts small few = by (unsigned_abs z == 0) refl
    where
      e : Expression
      e = rows.number (unsigned_abs z) after

      nothing : (y : ℤ) → unsigned_abs y ≡ 0 → pos 0 ≡ y
      nothing (pos n) k = ap pos (sym k)
      nothing (negsuc n) k = absurd (omega arith)

      by : (t : Bool) → (unsigned_abs z == 0) ≡ t
          → linear_rest_of number_of (operators_of (if t then [] else joined_to z (length (decimal (unsigned_abs z)) + after) e ∷ [])) (operands_of (if t then [] else joined_to z (length (decimal (unsigned_abs z)) + after) e ∷ [])) (form.form none ts)
          ≡ Ok (form.form (fraction z 1) ts)
      by true k = ap (λ y. Ok (form.form (fraction y 1) ts)) (nothing z (eqb-true (unsigned_abs z) 0 k))
      by false k =
          let o : Operator = record { operation = joining z; left = 2 + (length (decimal (unsigned_abs z)) + after) } in
          ap (λ r. with_value r (λ g. with_value (operated o (form.form none ts) g) (linear_rest_of number_of [] []))) (number_value (unsigned_abs z) after small)
          ∙ ap (λ r. with_value r (linear_rest_of number_of [] [])) (number_joined z o.left ts small few)

  abbrev names : List (ℕ × ℤ) → List ℕ
  names ps = map (λ (p : ℕ × ℤ). h p.0) ps

  later_value : (ps : List (ℕ × ℤ)) (z : ℤ) (after : ℕ) (ts : Terms) → AreDistinct (variables_of ts ++ names ps) → are_small ts ≡ true → pairs_within ps ≡ true → IsSmall z
      → linear_rest_of number_of (operators_of (later place ps z after)) (operands_of (later place ps z after)) (form.form none ts) ≡ Ok (form.form (fraction z 1) (ts ++ whole_terms h ps))
  later_value [] z after ts apart few within small = constant_value z after ts small few ∙ ap (λ us. Ok (form.form (fraction z 1) us)) (sym (append-nil ts))
  later_value (p ∷ ps) z after ts apart few within small =
      let halves = and_parts (nat_le (unsigned_abs p.1) limit) (pairs_within ps) within in
      let t : ℕ × Fraction = (h p.0, fraction p.1 1) in
      let us = ts ++ t ∷ [] in
      let rest = λ (f : Form). linear_rest_of number_of (operators_of (later place ps z after)) (operands_of (later place ps z after)) f in
      let follow = length (later_terms ps ++ later_constant z) + after in
      let left = 2 + (length (product_text (unsigned_abs p.1) p.0) + follow) in
      let few_more = small_more ts t few (small_whole p.1 halves.0) in
      let apart_more : AreDistinct (variables_of us ++ names ps) =
      subst AreDistinct (sym (ap (λ ns. ns ++ names ps) (map-append (λ (u : ℕ × Fraction). u.0) ts (t ∷ [])) ∙ append_assoc (variables_of ts) (h p.0 ∷ []) (names ps))) apart in
      ap (λ r. with_value r (λ g. with_value (operated (record { operation = joining p.1; left = left }) (form.form none ts) g) rest)) (product_value false _ (unsigned_abs p.1) p.0 _ halves.0)
      ∙ ap (λ r. with_value r rest) (term_joined p.1 left (h p.0) ts (front_distinct (variables_of ts) (h p.0) (names ps) apart) few_more)
      ∙ later_value ps z after us apart_more few_more halves.1 small
      ∙ ap (λ vs. Ok (form.form (fraction z 1) vs)) (append_assoc ts (t ∷ []) (whole_terms h ps))

  chained_value : (begin : ℕ) (e : Expression) (xs : List (Operator × Expression))
      → value (chained begin (operators_of xs) (e ∷ operands_of xs)) ≡ with_value (value e) (linear_rest_of number_of (operators_of xs) (operands_of xs))
  unfolding chained
  chained_value begin e [] = by (value e)
    where
      by : (r : Result Form Fault) → r ≡ with_value r (linear_rest_of number_of [] [])
      by (Ok f) = refl
      by (Err x) = refl
  chained_value begin e (x ∷ xs) = linear_node number_of begin (head.Chain (operators_of (x ∷ xs))) (e ∷ operands_of (x ∷ xs))

  sign_back : (z : ℤ) → with_sign (is_negative z) (unsigned_abs z) ≡ z
  sign_back (pos n) = ap (λ b. with_sign b n) (not_negative n)
  sign_back (negsuc n) = refl

  pub sum_value : (ps : List (ℕ × ℤ)) (z : ℤ) (after : ℕ) → AreDistinct (names ps) → pairs_within ps ≡ true → IsSmall z
      → value (rows.sum place ps z after) ≡ Ok (form.form (fraction z 1) (whole_terms h ps))
  sum_value [] z after apart within small = by z small
    where
      by : (y : ℤ) → IsSmall y → value (rows.signed (is_negative y) (length (signed_decimal y) + after) (rows.number (unsigned_abs y) after)) ≡ Ok (form.form (fraction y 1) [])
      by (pos n) s = ap (λ b. value (rows.signed b (length (signed_decimal (pos n)) + after) (rows.number n after))) (not_negative n) ∙ number_value n after s
      by (negsuc n) s = signed_value true _ (rows.number (suc n) after) (form.whole (suc n)) (number_value (suc n) after s)
  sum_value (p ∷ ps) z after apart within small =
      let halves = and_parts (nat_le (unsigned_abs p.1) limit) (pairs_within ps) within in
      let t : ℕ × Fraction = (h p.0, fraction p.1 1) in
      let xs = later place ps z after in
      let rest = λ (f : Form). linear_rest_of number_of (operators_of xs) (operands_of xs) f in
      chained_value _ _ xs
      ∙ ap (λ r. with_value r rest) (product_value (is_negative p.1) _ (unsigned_abs p.1) p.0 _ halves.0)
      ∙ ap (λ y. rest (one_term (h p.0) y)) (sign_back p.1)
      ∙ later_value ps z after (t ∷ []) apart (both (is_small t.1) true (small_whole p.1 halves.0) refl) halves.1 small
