-- Numbers and variables of printed rows, with signs and coefficients.
use Rattle.std.proofs.Common.{◌≡◌, ℕ, suc, ◌+◌, ◌<◌, ◌≤◌, Bool, true, false, List, [], ◌∷◌, ◌++◌, length, refl, ap, ◌∙◌, arith, append_assoc, length-append, Ok, codes, None}
use Rattle.std.proofs.lemmas.Bool.Decides.{nat_tests}
use Rattle.std.proofs.lemmas.Fmt.{decimal_is_IsNumeral}
use Rattle.std.specs.Char.{digit_value}
use Rattle.std.specs.Fmt.{decimal}
use Rattle.std.specs.Prelude.{◌==◌, if◌then◌else◌}
use Rattle.std.specs.Str.Parse.{AllDigits, IsNumeral, digits_value}
use Rattle.token_model.specs.declared.token.Lexeme.{Lexeme}
use Rattle.token_model.specs.declared.token.Lexeme.TheVariants as l
use Rattle.token_model.specs.Numbers.{max_number, number_value, joins_number}
use Rattle.token_model.specs.White.{skipped}
use Rattle.token_model.specs.Remaining.{Remaining, ahead, lexeme, left}
use Rattle.token_model.specs.Parsers.{Outcome, and_then, pure}
use Rattle.printed_tokens.specs.Next.{NextIs, EndsName, EndsNumber}
use Rattle.printed_tokens.proofs.Names.{variable_is, variable_stays}
use Rattle.printed_tokens.proofs.Numbers.{number_is, number_back, number_stays}
use Rattle.printed_tokens.proofs.Marks.{minus_is, times_is}
use Rattle.clp_grammar.specs.declared.expression.Operation.TheVariants.{Multiply}
use Rattle.clp_grammar.specs.declared.expression.Operator.{Operator}
use Rattle.clp_grammar.specs.declared.expression.Head.TheVariants as head
use Rattle.clp_grammar.specs.declared.expression.Expression.{Expression, Number, Variable, Node}
use Rattle.clp_grammar.specs.Input.{Input, passed}
use Rattle.clp_grammar.specs.Names.{numbered, variable}
use Rattle.clp_grammar.specs.Expressions as grammar
use Rattle.clp_grammar.specs.Expressions.{product_operation, chained, chain_from, link_by, arguments, bracketed, list, primary_by, signed_by}
use Rattle.print_model.specs.Terms.{variable_text}
use Rattle.print_model.specs.Rows.{product_text}
use Rattle.standing_model.specs.Terms as standing
use Rattle.standing_model.specs.Rows as rows
use Rattle.parsing_laws.specs.Places.{at, known, met, Placed}
use Rattle.parsing_laws.proofs.Places.{numbered_is}
use Rattle.parsing_laws.specs.Behind.{behind}
use Rattle.parsing_laws.proofs.States.{passes}
use Rattle.parsing_laws.proofs.Chains.{primary, signed, product, is_sign, unsigned, chain_begins, chain_ends, lone}

-- ---- factors

-- the text goes on with no name and no number
pub record Breaks (z : List ℕ) : Type 0 where
  pub name : EndsName z
  pub number : EndsNumber z

-- a number or a variable, which may stand behind a `-`; what follows may tell that it stands behind a number
pub record IsFactor (place : ℕ → ℕ) (text : List ℕ) (e : ℕ → Expression) (ns : List ℕ) (flag : Bool) : Type 0 where
  pub stays : (z : List ℕ) → skipped (text ++ z) ≡ text ++ z
  pub minus : (r : Remaining) (z : List ℕ) → ahead r ≡ 45 ∷ (text ++ z) → NextIs r l.Minus (45 ∷ []) (text ++ z)
  pub no_sign : (ms : List ℕ) (r : Remaining) (z : List ℕ) → Placed place ms ns → ahead r ≡ text ++ z → Breaks z → is_sign (lexeme r) ≡ false
  pub is : (more : ℕ) (ms : List ℕ) (r : Remaining) (z : List ℕ) → Placed place ms ns → ahead r ≡ text ++ z → Breaks z
      → primary more (at r (known ms)) ≡ Ok (e (length z), at (behind z flag) (known (met ms ns)))

digit_no_mark : (d : ℕ) → digit_value d < 10 → ((d == 45) ≡ false) × ((d == 62) ≡ false)
digit_no_mark d h = grind (arith, nat_tests)

minus_digits : (ds : List ℕ) (r : Remaining) (z : List ℕ) → 0 < length ds → AllDigits 10 ds → ahead r ≡ 45 ∷ (ds ++ z) → NextIs r l.Minus (45 ∷ []) (ds ++ z)
minus_digits [] r z some all front = absurd (omega arith)
minus_digits (d ∷ ds) r z some all front = let h = digit_no_mark d all.0 in minus_is r d (ds ++ z) h.0 h.1 front

pub number_factor : (place : ℕ → ℕ) (n : ℕ) → n ≤ max_number → IsFactor place (decimal n) (rows.number n) [] true
unfolding grammar.primary left
number_factor place n small = record {
  stays = λ z. number_stays n z small;
  minus = λ r z front. minus_digits (decimal n) r z digits.0.0 digits.0.1 front;
  no_sign = λ ms r z numbers front breaks. ap is_sign (number_is r n z small front breaks.number).lexeme;
  is = is;
}
  where
    digits : IsNumeral 10 (decimal n) × (digits_value 10 (decimal n) ≡ n)
    digits = decimal_is_IsNumeral n (omega arith)

    is : (more : ℕ) (ms : List ℕ) (r : Remaining) (z : List ℕ) → Placed place ms [] → ahead r ≡ decimal n ++ z → Breaks z
        → primary more (at r (known ms)) ≡ Ok (rows.number n (length z), at (behind z true) (known ms))
    is more ms r z numbers front breaks =
        let next = number_is r n z small front breaks.number in
        ap (λ (k : Lexeme). primary_by more (arguments more) (bracketed more) (list more) k (at r (known ms))) next.lexeme
        ∙ ap (λ (w : List ℕ). Ok (Number (left r) (number_value w), passed (at r (known ms)))) next.spelling
        ∙ ap (λ (v : ℕ). Ok (Number (left r) v, passed (at r (known ms)))) (number_back n small)
        ∙ ap (λ (i : Input). Ok (Number (left r) n, i)) (passes r l.Number (decimal n) z (known ms) next)
        ∙ ap (λ (k : ℕ). Ok (Number k n, at (behind z true) (known ms))) (next.left ∙ length-append (decimal n) z)

pub variable_factor : (place : ℕ → ℕ) (n : ℕ) → IsFactor place (variable_text n) (standing.variable place n) (n ∷ []) false
unfolding grammar.primary variable left
variable_factor place n = record {
  stays = variable_stays n;
  minus = λ r z front. minus_is r 86 (decimal n ++ z) refl refl front;
  no_sign = λ ms r z numbers front breaks. ap is_sign (variable_is r n z numbers.0.small front breaks.name).lexeme;
  is = is;
}
  where
    is : (more : ℕ) (ms : List ℕ) (r : Remaining) (z : List ℕ) → Placed place ms (n ∷ []) → ahead r ≡ variable_text n ++ z → Breaks z
        → primary more (at r (known ms)) ≡ Ok (standing.variable place n (length z), at (behind z false) (known (met ms (n ∷ []))))
    is more ms r z numbers front breaks =
        let next = variable_is r n z numbers.0.small front breaks.name in
        ap (λ (k : Lexeme). primary_by more (arguments more) (bracketed more) (list more) k (at r (known ms))) next.lexeme
        ∙ ap (λ (o : Outcome Input ℕ). and_then o (λ v. pure (Variable (left r) v)))
        (ap (λ (w : List ℕ). numbered w (passed (at r (known ms)))) next.spelling
        ∙ ap (numbered (variable_text n)) (passes r l.Variable (variable_text n) z (known ms) next)
        ∙ numbered_is place ms n (behind z false) numbers.0)
        ∙ ap (λ (k : ℕ). Ok (Variable k (place n), at (behind z false) (known (met ms (n ∷ []))))) (next.left ∙ length-append (variable_text n) z)

-- ---- signs

abbrev pub sign_text : Bool → List ℕ
sign_text is_minus = if is_minus then codes "-" else []

pub signed_is : (place : ℕ → ℕ) (text : List ℕ) (e : ℕ → Expression) (ns : List ℕ) (flag : Bool) → IsFactor place text e ns flag → (is_minus : Bool) (more : ℕ) (ms : List ℕ) (r : Remaining) (z : List ℕ)
    → Placed place ms ns → ahead r ≡ sign_text is_minus ++ (text ++ z) → Breaks z
    → signed more (at r (known ms)) ≡ Ok (rows.signed is_minus (left r) (e (length z)), at (behind z flag) (known (met ms ns)))
unfolding grammar.signed grammar.behind_sign ahead
signed_is place text e ns flag f false more ms r z numbers front breaks = unsigned more r (known ms) (f.no_sign ms r z numbers front breaks) ∙ f.is more ms r z numbers front breaks
signed_is place text e ns flag f true more ms r z numbers front breaks =
    let minus = f.minus r z front in
    ap (λ (k : Lexeme). signed_by more (arguments more) (bracketed more) (list more) k (at r (known ms))) minus.lexeme
    ∙ ap (λ (i : Input). and_then (primary more i) (λ part. pure (Node (left r) head.Minus (part ∷ [])))) (passes r l.Minus (45 ∷ []) (text ++ z) (known ms) minus)
    ∙ ap (λ (o : Outcome Input Expression). and_then o (λ part. pure (Node (left r) head.Minus (part ∷ [])))) (f.is more ms (behind (text ++ z) false) z numbers (f.stays z) breaks)

-- ---- products

star_breaks : (z : List ℕ) → Breaks (42 ∷ z)
unfolding joins_number
star_breaks z = record { name = record { word = refl; quote = refl }; number = record { digits = refl; joins = refl } }

pub product_is : (place : ℕ → ℕ) (is_minus : Bool) (magnitude n more : ℕ) (ms : List ℕ) (r : Remaining) (z : List ℕ) → magnitude ≤ max_number
    → Placed place ms (n ∷ []) → ahead r ≡ sign_text is_minus ++ (product_text magnitude n ++ z) → Breaks z → product_operation (lexeme (behind z false)) ≡ None
    → product more (at r (known ms)) ≡ Ok (rows.product place is_minus (left r) magnitude n (length z), at (behind z false) (known (met ms (n ∷ []))))
unfolding chain_from chained left ahead skipped
product_is place is_minus magnitude n more ms r z small numbers front breaks stop = go (magnitude == 1) front
  where
    v : ℕ → Expression
    v = standing.variable place n

    times : ℕ
    times = 1 + (length (variable_text n) + length z)

    go : (t : Bool) → ahead r ≡ sign_text is_minus ++ ((if t then variable_text n else decimal magnitude ++ (codes "*" ++ variable_text n)) ++ z)
        → product more (at r (known ms))
        ≡ Ok (
          (if t then rows.signed is_minus (left r) (standing.variable place n (length z))
              else Node (left r) (head.Chain (record { operation = Multiply; left = 1 + (length (variable_text n) + length z) } ∷ [])) (rows.signed is_minus (left r) (rows.number magnitude (1 + (length (variable_text n) + length z))) ∷ standing.variable place n (length z) ∷ [])),
          at (behind z false) (known (met ms (n ∷ []))),
        )
    go true f = lone product_operation (signed more) (rows.signed is_minus (left r) (v (length z))) r (behind z false) (known ms) (known (met ms (n ∷ [])))
        (signed_is place (variable_text n) v (n ∷ []) false (variable_factor place n) is_minus more ms r z numbers f breaks) stop
    go false f =
        let rest = variable_text n ++ z in
        let s = behind (42 ∷ rest) true in
        let here = suc (length rest) in
        let first = rows.signed is_minus (left r) (rows.number magnitude here) in
        let star_is = times_is s rest refl in
        let operators : List Operator = record { operation = Multiply; left = here } ∷ [] in
        let end = at (behind z false) (known (met ms (n ∷ []))) in
        chain_begins product_operation (signed more) first r s (known ms) (known ms)
        (signed_is place (decimal magnitude) (rows.number magnitude) [] true (number_factor place magnitude small) is_minus more ms r (42 ∷ rest) tt
        (f ∙ ap (λ (y : List ℕ). sign_text is_minus ++ y) (append_assoc (decimal magnitude) (42 ∷ variable_text n) z)) (star_breaks rest))
        ∙ ap (λ (k : Lexeme). link_by product_operation (signed more) (left r) [] (first ∷ []) (chain_from product_operation (signed more) (length rest) (left r)) (product_operation k) (at s (known ms))) star_is.lexeme
        ∙ ap (λ (i : Input). and_then (signed more i) (λ part. chain_from product_operation (signed more) (length rest) (left r) operators (first ∷ part ∷ []))) (passes s l.Times (42 ∷ []) rest (known ms) star_is)
        ∙ ap (λ (o : Outcome Input Expression). and_then o (λ part. chain_from product_operation (signed more) (length rest) (left r) operators (first ∷ part ∷ [])))
        (signed_is place (variable_text n) v (n ∷ []) false (variable_factor place n) false more ms (behind rest false) z numbers (variable_stays n z) breaks)
        ∙ chain_ends product_operation (signed more) (length rest) (left r) operators (first ∷ v (length z) ∷ []) (behind z false) (known (met ms (n ∷ []))) stop
        ∙ ap (λ (k : ℕ). Ok (Node (left r) (head.Chain (record { operation = Multiply; left = k } ∷ [])) (rows.signed is_minus (left r) (rows.number magnitude k) ∷ v (length z) ∷ []), end))
        (let g : suc (length (variable_text n ++ z)) ≡ 1 + (length (variable_text n) + length z) = omega (arith, length-append (variable_text n) z) in g)
