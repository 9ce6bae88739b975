-- Rows that are read are in normal form and in range, and their variables can be written.
use Rattle.std.proofs.Common.{◌≡◌, ℕ, zero, suc, ◌<◌, ◌^◌, Bool, true, false, List, [], ◌∷◌, get_or, refl, arith, Option, Some, None, Result, Ok, Err, ℤ, pos}
use Rattle.std.proofs.lemmas.Bool.{and_parts}
use Rattle.std.proofs.lemmas.Bool.Decides.{nat_tests}
use Rattle.std.proofs.lemmas.List.Elements.{All-nil, All-cons}
use Rattle.std.specs.Char.{is_ascii_digit}
use Rattle.std.specs.List.{list_all}
use Rattle.std.specs.Option.{option_or}
use Rattle.std.specs.Prelude.{All, ◌&&◌, ◌-◌, not, nat_eq, nat_lt, nat_le, ◌*ℤ◌, ◌+ℤ◌, int_div, if◌then◌else◌}
use Rattle.clp_rationals.specs.Fraction.{Fraction}
use Rattle.clp_model.specs.Clauses.{Row}
use Rattle.clp_model.specs.declared.sort.Rel.{Rel}
use Rattle.clp_model.specs.declared.sort.Rel.TheVariants.{Eq, Le, Lt}
use Rattle.linear_model.specs.Forms.{IsRising, is_zero, with_pair, scaled, merged, combined}
use Rattle.linear_model.specs.Normal.{normal, divided_pairs, is_within}
use Rattle.linear_laws.proofs.Rising.{rising_with, rising_combined}
use Rattle.linear_laws.proofs.Divided.{normal_is_normal}
use Rattle.frac_model.specs.Reduced as frac
use Rattle.form_model.specs.declared.fault.FormFault.{FormFault}
use Rattle.form_model.specs.declared.fault.FormFault.TheVariants.{NotLinear, ZeroDivisor, TooLarge}
use Rattle.form_model.specs.Forms as form
use Rattle.form_model.specs.Forms.{Form, with_term, with_terms, each, mapped, cleared, cleared_terms, in_order, cleared_row, is_small_form}
use Rattle.token_model.specs.declared.fault.Fault.{Fault}
use Rattle.token_model.specs.declared.fault.Kind.TheVariants.{BadVariable}
use Rattle.token_model.specs.Numbers.{number_value}
use Rattle.token_model.specs.Remaining.{Remaining}
use Rattle.token_model.specs.Parsers.{Outcome}
use Rattle.clp_grammar.specs.declared.expression.Operation.{Operation}
use Rattle.clp_grammar.specs.declared.expression.Operation.TheVariants.{Add, Subtract, Multiply, Divide}
use Rattle.clp_grammar.specs.declared.expression.Operator.{Operator}
use Rattle.clp_grammar.specs.declared.expression.Head.TheVariants as head
use Rattle.clp_grammar.specs.declared.expression.Expression.{Expression, Number, Variable, Node', Row_of-Expression, end_of-Expression, more_of-Expression}
use Rattle.clp_grammar.specs.declared.draft.Relation.{Relation}
use Rattle.clp_grammar.specs.declared.draft.Relation.TheVariants.{Equal, NumberEqual, AtMost, Less, AtLeast, Greater}
use Rattle.clp_grammar.specs.declared.draft.Comparison.{Comparison}
use Rattle.clp_grammar.specs.Clauses.{unless}
use Rattle.clp_grammar.specs.Input.{Input, start}
use Rattle.clp_grammar.specs.Evaluation.{fault_at, placed, with_value, linear, only_linear, linear_chain, linear_rest, computed, operated, negated, row_by, row_of}
use Rattle.row_grammar.specs.Row.{max_variable, is_positive, variable_number, variable_numbers, number_at, variable_fault, variables_fault, parts_fault, sides_fault, compared_to_show, row_over, meant, row_to_show}
use Rattle.script_grammar.specs.ScriptText.{IsVariable, IsRow}
use Rattle.script_laws.proofs.Outcomes.{IfOk, with_it, chosen_ok, Gives}

-- ---- numbers of variables

-- the number of a variable that can be written
abbrev IsWritten : ℕ → Type 0
IsWritten n = (0 < n) × (n < 2 ^ 32)

number_small : (name : List ℕ) → variable_number name < 2 ^ 32
unfolding variable_number
number_small [] = omega arith
number_small (b ∷ digits) = go (nat_eq b 86) digits
  where
    positive_small : (c : ℕ) (rest : List ℕ) → is_positive (c ∷ rest) ≡ true → number_value (c ∷ rest) < 2 ^ 32
    positive_small c rest h =
        let e : nat_le (number_value (c ∷ rest)) max_variable ≡ true = (and_parts (list_all is_ascii_digit (c ∷ rest) && not (nat_eq c 48)) (nat_le (number_value (c ∷ rest)) max_variable) h).1 in
        grind (arith, nat_tests)

    by : (c : ℕ) (rest : List ℕ) (t : Bool) → is_positive (c ∷ rest) ≡ t → (if t then number_value (c ∷ rest) else 0) < 2 ^ 32
    by c rest true e = positive_small c rest e
    by c rest false e = omega arith

    go : (t : Bool) (ds : List ℕ) → (if t && is_positive ds then number_value ds else 0) < 2 ^ 32
    go true [] = omega arith
    go true (c ∷ rest) = by c rest (is_positive (c ∷ rest)) refl
    go false ds = omega arith

numbers_small : (names : List (List ℕ)) (k : ℕ) → get_or (variable_numbers names) k 0 < 2 ^ 32
numbers_small [] k = omega arith
numbers_small (name ∷ names) zero = number_small name
numbers_small (name ∷ names) (suc k) = numbers_small names k

-- ---- variables of lists of terms

abbrev AreWritten : {B : Type 0} → List (ℕ × B) → Type 0
AreWritten [] = Unit {0}
AreWritten (p ∷ ps) = IsWritten p.0 × AreWritten ps

abbrev Terms : Type 0
Terms = List (ℕ × Fraction)

with_term_written : (v : ℕ) (c : Fraction) (ps : Terms) → IsWritten v → AreWritten ps → AreWritten (with_term v c ps)
with_term_written v c [] h g = (h, tt)
with_term_written v c (p ∷ ps) h g = go (nat_eq v p.0) (with_term_written v c ps h g.1)
  where
    go : (t : Bool) → AreWritten (with_term v c ps) → AreWritten (if t then (p.0, frac.sum p.1 c) ∷ ps else p ∷ with_term v c ps)
    go true k = g
    go false k = (g.0, k)

with_terms_written : (ps qs : Terms) → AreWritten ps → AreWritten qs → AreWritten (with_terms ps qs)
with_terms_written ps [] h g = h
with_terms_written ps (q ∷ qs) h g = with_terms_written (with_term q.0 q.1 ps) qs (with_term_written q.0 q.1 ps g.0 h) g.1

each_written : (f : Fraction → Fraction) (ps : Terms) → AreWritten ps → AreWritten (each f ps)
each_written f [] h = tt
each_written f (p ∷ ps) h = (h.0, each_written f ps h.1)

-- ---- forms

HasWritten : Form → Type 0
HasWritten f = AreWritten f.terms

small_written : (f : Form) → HasWritten f → IfOk HasWritten (form.if_small_form f)
small_written f h = chosen_ok HasWritten (is_small_form f) f TooLarge h

mapped_written : (k : Fraction → Fraction) (f : Form) → HasWritten f → HasWritten (mapped k f)
unfolding HasWritten
mapped_written k f h = each_written k f.terms h

sum_written : (f g : Form) → HasWritten f → HasWritten g → IfOk HasWritten (form.sum f g)
unfolding HasWritten
sum_written f g h k = small_written (form.form (frac.sum f.constant g.constant) (with_terms f.terms g.terms)) (with_terms_written f.terms g.terms h k)

difference_written : (f g : Form) → HasWritten f → HasWritten g → IfOk HasWritten (form.difference f g)
difference_written f g h k = sum_written f (form.opposite g) h (mapped_written frac.opposite g k)

product_written : (f g : Form) → HasWritten f → HasWritten g → IfOk HasWritten (form.product f g)
product_written f g h k = go (form.is_constant g) (form.is_constant f)
  where
    go : (s t : Bool) → IfOk HasWritten (if s then form.if_small_form (form.multiplied g.constant f) else if t then form.if_small_form (form.multiplied f.constant g) else Err NotLinear)
    go true t = small_written (form.multiplied g.constant f) (mapped_written (λ c. frac.product c g.constant) f h)
    go false true = small_written (form.multiplied f.constant g) (mapped_written (λ c. frac.product c f.constant) g k)
    go false false = tt

quotient_written : (f g : Form) → HasWritten f → IfOk HasWritten (form.quotient f g)
quotient_written f g h = go (form.is_constant g) (is_zero g.constant.num)
  where
    go : (s t : Bool) → IfOk HasWritten (if s then (if t then Err ZeroDivisor else form.if_small_form (form.divided g.constant f)) else Err NotLinear)
    go true true = tt
    go true false = small_written (form.divided g.constant f) (mapped_written (λ c. frac.quotient c g.constant) f h)
    go false t = tt

-- ---- expressions

at_a_place : {A : Type 0} (P : A → Type 0) (place : ℕ) (r : Result A FormFault) → IfOk P r → IfOk P (placed place r)
at_a_place P place (Ok a) h = h
at_a_place P place (Err e) h = tt

computed_written : (o : Operation) (f g : Form) → HasWritten f → HasWritten g → IfOk HasWritten (computed o f g)
computed_written Add f g h k = sum_written f g h k
computed_written Subtract f g h k = difference_written f g h k
computed_written Multiply f g h k = product_written f g h k
computed_written Divide f g h k = quotient_written f g h

negated_written : (r : Result Form Fault) → IfOk HasWritten r → IfOk HasWritten (negated r)
negated_written (Ok f) h = mapped_written frac.opposite f h
negated_written (Err e) h = tt

neither : (a b : Option Fault) → option_or a b ≡ None → (a ≡ None) × (b ≡ None)
neither None b h = (refl, h)
neither (Some f) b h = absurd (cc)

module _ (numbers : List ℕ) (small : (k : ℕ) → get_or numbers k 0 < 2 ^ 32) where
  variable_written : (place n : ℕ) → variable_fault numbers place n ≡ None → IsWritten (number_at numbers n)
  variable_written place n h = go (nat_eq (number_at numbers n) 0) refl h
    where
      go : (t : Bool) → nat_eq (number_at numbers n) 0 ≡ t → (if t then Some (fault_at place BadVariable) else None) ≡ None → IsWritten (number_at numbers n)
      go true e k = absurd (cc)
      go false e k = let some : 0 < number_at numbers n = grind (arith, nat_tests) in (some, small (n - 1))

  mutual
    unfolding linear variables_fault HasWritten

    linear_written : (e : Expression) → variables_fault numbers e ≡ None → IfOk HasWritten (linear (number_at numbers) e)
    linear_written (Number place value) h = at_a_place HasWritten place (form.if_small_form (form.whole value)) (small_written (form.whole value) tt)
    linear_written (Variable place n) h = (variable_written place n h, tt)
    linear_written (Node' place (head.Application name) shape parts) h = tt
    linear_written (Node' place head.List shape parts) h = tt
    linear_written (Node' place head.OpenList shape parts) h = tt
    linear_written (Node' place head.Brackets shape parts) h = only_written _ place parts h
    linear_written (Node' place head.Plus shape parts) h = only_written _ place parts h
    linear_written (Node' place head.Minus shape parts) h = negated_written (only_linear (number_at numbers) place parts) (only_written _ place parts h)
    linear_written (Node' place (head.Chain operators) shape parts) h = chain_written _ place operators parts h

    only_written : (m : _) (place : ℕ) (parts : Row_of-Expression m) → parts_fault numbers parts ≡ None → IfOk HasWritten (only_linear (number_at numbers) place parts)
    only_written m place end_of-Expression h = tt
    only_written m place (more_of-Expression part parts) h = linear_written part (neither (variables_fault numbers part) (parts_fault numbers parts) h).0

    chain_written : (m : _) (place : ℕ) (operators : List Operator) (parts : Row_of-Expression m) → parts_fault numbers parts ≡ None → IfOk HasWritten (linear_chain (number_at numbers) place operators parts)
    chain_written m place operators end_of-Expression h = tt
    chain_written m place operators (more_of-Expression part parts) h =
        let none = neither (variables_fault numbers part) (parts_fault numbers parts) h in
        with_it HasWritten HasWritten (linear (number_at numbers) part) (linear_rest (number_at numbers) operators parts) (linear_written part none.0) (λ f g. rest_written _ operators parts f none.1 g)

    rest_written : (m : _) (operators : List Operator) (parts : Row_of-Expression m) (f : Form) → parts_fault numbers parts ≡ None → HasWritten f → IfOk HasWritten (linear_rest (number_at numbers) operators parts f)
    rest_written m operators end_of-Expression f h k = k
    rest_written m [] (more_of-Expression part parts) f h k = k
    rest_written m (o ∷ operators) (more_of-Expression part parts) f h k =
        let none = neither (variables_fault numbers part) (parts_fault numbers parts) h in
        with_it HasWritten HasWritten (linear (number_at numbers) part) (λ g. with_value (operated o f g) (linear_rest (number_at numbers) operators parts)) (linear_written part none.0)
        (λ g w. with_it HasWritten HasWritten (operated o f g) (linear_rest (number_at numbers) operators parts)
        (at_a_place HasWritten o.left (computed o.operation f g) (computed_written o.operation f g k w)) (λ d u. rest_written _ operators parts d none.1 u))

-- ---- rows

with_pair_written : (v : ℕ) (c : ℤ) (ps : List (ℕ × ℤ)) → IsWritten v → AreWritten ps → AreWritten (with_pair v c ps)
with_pair_written v c ps h k = go (is_zero c)
  where
    go : (t : Bool) → AreWritten (if t then ps else (v, c) ∷ ps)
    go true = k
    go false = (h, k)

scaled_written : (b : ℤ) (qs : List (ℕ × ℤ)) → AreWritten qs → AreWritten (scaled b qs)
scaled_written b [] h = tt
scaled_written b (q ∷ qs) h = with_pair_written q.0 (b *ℤ q.1) (scaled b qs) h.0 (scaled_written b qs h.1)

merged_written : (a : ℤ) (p : ℕ × ℤ) (rest : List (ℕ × ℤ) → List (ℕ × ℤ)) (b : ℤ) (qs : List (ℕ × ℤ)) → IsWritten p.0 → ((ps : List (ℕ × ℤ)) → AreWritten ps → AreWritten (rest ps)) → AreWritten qs → AreWritten (merged a p rest b qs)
merged_written a p rest b [] h k g = with_pair_written p.0 (a *ℤ p.1) (rest []) h (k [] tt)
merged_written a p rest b (q ∷ qs) h k g = go (nat_lt p.0 q.0) (nat_lt q.0 p.0) (merged_written a p rest b qs h k g.1)
  where
    go : (s t : Bool) → AreWritten (merged a p rest b qs) → AreWritten (if s then with_pair p.0 (a *ℤ p.1) (rest (q ∷ qs))
        else if t then with_pair q.0 (b *ℤ q.1) (merged a p rest b qs)
        else with_pair p.0 (a *ℤ p.1 +ℤ b *ℤ q.1) (rest qs))
    go true t w = with_pair_written p.0 (a *ℤ p.1) (rest (q ∷ qs)) h (k (q ∷ qs) g)
    go false true w = with_pair_written q.0 (b *ℤ q.1) (merged a p rest b qs) g.0 w
    go false false w = with_pair_written p.0 (a *ℤ p.1 +ℤ b *ℤ q.1) (rest qs) h (k qs g.1)

combined_written : (a : ℤ) (ps : List (ℕ × ℤ)) (b : ℤ) (qs : List (ℕ × ℤ)) → AreWritten ps → AreWritten qs → AreWritten (combined a ps b qs)
combined_written a [] b qs h k = scaled_written b qs k
combined_written a (p ∷ ps) b qs h k = merged_written a p (combined a ps b) b qs h.0 (λ rs w. combined_written a ps b rs h.1 w) k

cleared_written : (d : ℕ) (ps : Terms) → AreWritten ps → AreWritten (cleared_terms d ps)
cleared_written d [] h = tt
cleared_written d (p ∷ ps) h = (h.0, cleared_written d ps h.1)

in_order_written : (ps : List (ℕ × ℤ)) → AreWritten ps → AreWritten (in_order ps)
in_order_written [] h = tt
in_order_written (p ∷ ps) h = combined_written (pos 1) (with_pair p.0 p.1 []) (pos 1) (in_order ps) (with_pair_written p.0 p.1 [] h.0 tt) (in_order_written ps h.1)

in_order_rises : (ps : List (ℕ × ℤ)) → IsRising (in_order ps)
in_order_rises [] = tt
in_order_rises (p ∷ ps) = rising_combined (pos 1) (with_pair p.0 p.1 []) (pos 1) (in_order ps) (rising_with p.0 p.1 [] tt tt) (in_order_rises ps)

divided_written : (d : ℤ) (ps : List (ℕ × ℤ)) → AreWritten ps → All IsVariable (divided_pairs d ps)
divided_written d [] h = All-nil IsVariable
divided_written d (p ∷ ps) h = All-cons IsVariable (p.0, int_div p.1 d) (divided_pairs d ps) h.0 (divided_written d ps h.1)

form_row : (rel : Rel) (f : Form) → HasWritten f → IfOk IsRow (form.row_of rel f)
unfolding HasWritten
form_row rel f h = go (is_within (normal (cleared_row rel f))) refl
  where
    go : (t : Bool) → is_within (normal (cleared_row rel f)) ≡ t → IfOk IsRow (if t then Ok (normal (cleared_row rel f)) else Err TooLarge)
    go true e = record {
      normal = normal_is_normal (cleared_row rel f) (in_order_rises (cleared_terms (form.common_den f) f.terms));
      within = e;
      variables = divided_written _ (in_order (cleared_terms (form.common_den f) f.terms)) (in_order_written (cleared_terms (form.common_den f) f.terms) (cleared_written (form.common_den f) f.terms h));
    }
    go false e = tt

related_row : (relation : Relation) (f g : Form) → HasWritten f → HasWritten g → IfOk IsRow (row_by relation f g)
related_row Equal f g h k = with_it HasWritten IsRow (form.difference f g) (form.row_of Eq) (difference_written f g h k) (form_row Eq)
related_row NumberEqual f g h k = with_it HasWritten IsRow (form.difference f g) (form.row_of Eq) (difference_written f g h k) (form_row Eq)
related_row AtMost f g h k = with_it HasWritten IsRow (form.difference f g) (form.row_of Le) (difference_written f g h k) (form_row Le)
related_row Less f g h k = with_it HasWritten IsRow (form.difference f g) (form.row_of Lt) (difference_written f g h k) (form_row Lt)
related_row AtLeast f g h k = with_it HasWritten IsRow (form.difference g f) (form.row_of Le) (difference_written g f k h) (form_row Le)
related_row Greater f g h k = with_it HasWritten IsRow (form.difference g f) (form.row_of Lt) (difference_written g f k h) (form_row Lt)

module _ (numbers : List ℕ) (small : (k : ℕ) → get_or numbers k 0 < 2 ^ 32) (c : Comparison) where
  row_is : sides_fault numbers c ≡ None → IfOk IsRow (row_of (number_at numbers) c)
  unfolding sides_fault row_of
  row_is h =
      let none = neither (variables_fault numbers c.first) (variables_fault numbers c.second) h in
      with_it HasWritten IsRow (linear (number_at numbers) c.first) (λ f. with_value (linear (number_at numbers) c.second) (λ g. placed c.left (row_by c.relation f g)))
      (linear_written numbers small c.first none.0)
      (λ f w. with_it HasWritten IsRow (linear (number_at numbers) c.second) (λ g. placed c.left (row_by c.relation f g)) (linear_written numbers small c.second none.1)
      (λ g u. at_a_place IsRow c.left (row_by c.relation f g) (related_row c.relation f g w u)))

  over_numbers : IfOk IsRow (row_over numbers c)
  unfolding row_over
  over_numbers = go (sides_fault numbers c) refl
    where
      go : (o : Option Fault) → sides_fault numbers c ≡ o → IfOk IsRow (unless o (row_of (number_at numbers) c))
      go None e = row_is e
      go (Some f) e = tt

pub gives_row : Gives IsRow row_to_show
unfolding row_to_show
gives_row = record { is = λ r. go (compared_to_show (start r)) }
  where
    go : (o : Outcome Input Comparison) → IfOk (λ (x : Row × Remaining). IsRow x.0) (meant o)
    go (Ok p) = with_it IsRow (λ (x : Row × Remaining). IsRow x.0) (row_over (variable_numbers p.1.names) p.0) (λ row. Ok (row, p.1.remaining))
        (over_numbers (variable_numbers p.1.names) (numbers_small p.1.names) p.0) (λ row h. h)
    go (Err e) = tt
