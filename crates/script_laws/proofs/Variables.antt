-- The variables of a printed row have their numbers again.
use Rattle.std.proofs.Common.{◌≡◌, ℕ, zero, suc, ◌+◌, ◌-◌, ◌≤◌, ◌<◌, ◌^◌, Bool, true, false, List, [], ◌∷◌, ◌++◌, length, map, get_or, refl, ap, ◌∙◌, sym, arith, cond, None, ℤ}
use Rattle.std.proofs.lemmas.Bool.Decides.{nat_tests}
use Rattle.std.proofs.lemmas.Fmt.{decimal_is_IsNumeral, first_decimal}
use Rattle.std.specs.Char.{is_ascii_digit, digit_value}
use Rattle.std.specs.Fmt.{decimal}
use Rattle.std.specs.List.{list_all}
use Rattle.std.specs.Int.{is_negative}
use Rattle.std.specs.Prelude.{◌==◌, unsigned_abs, nat_eq, nat_le, if◌then◌else◌}
use Rattle.std.specs.Str.Parse.{AllDigits}
use Rattle.clp_model.specs.Canonical.{place_in}
use Rattle.clp_model.proofs.Membership.{Among, first, next, at_own_place}
use Rattle.token_model.specs.Numbers.{number_value}
use Rattle.print_model.specs.Terms.{variable_text}
use Rattle.parsing_laws.specs.Places.{known}
use Rattle.row_grammar.specs.Row.{max_variable, is_positive, variable_number, variable_numbers, number_at, variables_fault, parts_fault_of, sides_fault}
use Rattle.printed_tokens.proofs.Numbers.{number_back}
use Rattle.print_model.specs.Rows.{product_text, first_term, later_terms, later_constant, relation_text}
use Rattle.clp_model.specs.Clauses.{Row}
use Rattle.clause_model.specs.Variables.{row_variables}
use Rattle.standing_model.specs.Terms.{variable}
use Rattle.standing_model.specs.Rows as rows
use Rattle.clp_grammar.specs.declared.expression.Operation.TheVariants.{Multiply}
use Rattle.clp_grammar.specs.declared.expression.Operator.{Operator}
use Rattle.clp_grammar.specs.declared.expression.Head.TheVariants as head
use Rattle.clp_grammar.specs.declared.expression.Expression.{Expression, Node}
use Rattle.clp_grammar.specs.Expressions.{chained}
use Rattle.row_grammar.proofs.Parts.{variables_fault_node, variables_fault_number, variables_fault_variable}

-- ---- names

digit : (b : ℕ) → digit_value b < 10 → is_ascii_digit b ≡ true
digit b h = grind (arith, nat_tests)

all_digits : (ds : List ℕ) → AllDigits 10 ds → list_all is_ascii_digit ds ≡ true
all_digits [] h = refl
all_digits (d ∷ ds) h = rw (digit d h.0) (all_digits ds h.1)

positive_digits : (ds : List ℕ) → AllDigits 10 ds → 48 < get_or ds 0 0 → number_value ds ≤ max_variable → is_positive ds ≡ true
positive_digits [] all high most = absurd (omega arith)
positive_digits (d ∷ ds) all high most =
    let e : nat_eq d 48 ≡ false = grind (arith, nat_tests) in
    let f : nat_le (number_value (d ∷ ds)) max_variable ≡ true = grind (arith, nat_tests) in
    rw (all_digits (d ∷ ds) all, e, f) refl

-- a printed variable has its number, if this is no 0 and not too large
pub number_of_printed : (n : ℕ) → 0 < n → n < 2 ^ 32 → variable_number (variable_text n) ≡ n
unfolding variable_number
number_of_printed n some small =
    let d = decimal_is_IsNumeral n (omega arith) in
    let back : number_value (decimal n) ≡ n = number_back n (omega arith) in
    let positive = positive_digits (decimal n) d.0.1 (first_decimal n some (omega arith)) (omega (arith, back)) in
    rw (positive, back) refl

-- ---- their places

abbrev pub AreWritten : List ℕ → Type 0
AreWritten ms = (n : ℕ) → Among n ms → (0 < n) × (n < 2 ^ 32)

pub numbers_back : (ms : List ℕ) → AreWritten ms → variable_numbers (known ms) ≡ ms
numbers_back [] h = refl
numbers_back (m ∷ ms) h = let w = h m first in rw (number_of_printed m w.0 w.1) (ap (λ (z : List ℕ). m ∷ z) (numbers_back ms (λ n a. h n (next a))))

place_positive : (ms : List ℕ) (n : ℕ) → 0 < place_in ms n
place_positive [] n = omega arith
place_positive (m ∷ ms) n = go (nat_eq m n)
  where
    go : (t : Bool) → 0 < cond t 1 (suc (place_in ms n))
    go true = omega arith
    go false = omega arith

one_before : (ms : List ℕ) (k : ℕ) → 0 < k → get_or (0 ∷ ms) k 0 ≡ get_or ms (k - 1) 0
one_before ms zero h = absurd (omega arith)
one_before ms (suc k) h = ap (λ (j : ℕ). get_or ms j 0) (let e : k ≡ suc k - 1 = omega arith in e)

pub number_at_place : (ms : List ℕ) (n : ℕ) → Among n ms → number_at ms (place_in ms n) ≡ n
number_at_place ms n a = sym (one_before ms (place_in ms n) (place_positive ms n)) ∙ at_own_place ms n a

-- ---- no variable without a number

-- each of these has a number
abbrev pub AreNumbered : List ℕ → (ℕ → ℕ) → List ℕ → Type 0
AreNumbered numbers place ns = (n : ℕ) → Among n ns → 0 < number_at numbers (place n)

module _ (numbers : List ℕ) (place : ℕ → ℕ) where
  abbrev IsNumbered : Expression → Type 0
  IsNumbered e = variables_fault numbers e ≡ None

  variable_numbered : (n after : ℕ) → 0 < number_at numbers (place n) → IsNumbered (variable place n after)
  variable_numbered n after h =
      let e : nat_eq (number_at numbers (place n)) 0 ≡ false = grind (arith, nat_tests) in
      variables_fault_variable numbers _ (place n) ∙ rw e refl

  signed_numbered : (is_minus : Bool) (begin : ℕ) (e : Expression) → IsNumbered e → IsNumbered (rows.signed is_minus begin e)
  signed_numbered true begin e h = variables_fault_node numbers begin head.Minus (e ∷ []) ∙ rw h refl
  signed_numbered false begin e h = h

  product_numbered : (is_minus : Bool) (begin magnitude n after : ℕ) → 0 < number_at numbers (place n) → IsNumbered (rows.product place is_minus begin magnitude n after)
  product_numbered is_minus begin magnitude n after h = go (magnitude == 1)
    where
      times : ℕ
      times = 1 + (length (variable_text n) + after)

      go : (t : Bool) → IsNumbered (if t then rows.signed is_minus begin (variable place n after)
          else Node begin (head.Chain (record { operation = Multiply; left = times } ∷ [])) (rows.signed is_minus begin (rows.number magnitude times) ∷ variable place n after ∷ []))
      go true = signed_numbered is_minus begin (variable place n after) (variable_numbered n after h)
      go false =
          let first = signed_numbered is_minus begin (rows.number magnitude times) (variables_fault_number numbers _ magnitude) in
          variables_fault_node numbers begin _ _ ∙ rw (first, variable_numbered n after h) refl

  chained_numbered : (begin : ℕ) (operators : List Operator) (e : Expression) (parts : List Expression) → IsNumbered e → parts_fault_of numbers parts ≡ None → IsNumbered (chained begin operators (e ∷ parts))
  unfolding chained
  chained_numbered begin [] e parts h others = h
  chained_numbered begin (o ∷ operators) e parts h others = variables_fault_node numbers begin (head.Chain (o ∷ operators)) (e ∷ parts) ∙ rw (h, others) refl

  constant_numbered : (z : ℤ) (after : ℕ) → parts_fault_of numbers (rows.operands_of (rows.later_number z after)) ≡ None
  constant_numbered z after = go (unsigned_abs z == 0)
    where
      go : (t : Bool) → parts_fault_of numbers (rows.operands_of (if t then [] else rows.joined_to z (length (decimal (unsigned_abs z)) + after) (rows.number (unsigned_abs z) after) ∷ [])) ≡ None
      go true = refl
      go false = rw (variables_fault_number numbers (length (decimal (unsigned_abs z)) + after) (unsigned_abs z)) refl

  later_numbered : (ps : List (ℕ × ℤ)) (z : ℤ) (after : ℕ) → AreNumbered numbers place (map (λ (p : ℕ × ℤ). p.0) ps) → parts_fault_of numbers (rows.operands_of (rows.later place ps z after)) ≡ None
  later_numbered [] z after h = constant_numbered z after
  later_numbered (p ∷ ps) z after h =
      let follow = length (later_terms ps ++ later_constant z) + after in
      let begin = length (product_text (unsigned_abs p.1) p.0) + follow in
      rw (product_numbered false begin (unsigned_abs p.1) p.0 follow (h p.0 first)) (later_numbered ps z after (λ n a. h n (next a)))

  sum_numbered : (ps : List (ℕ × ℤ)) (z : ℤ) (after : ℕ) → AreNumbered numbers place (map (λ (p : ℕ × ℤ). p.0) ps) → IsNumbered (rows.sum place ps z after)
  sum_numbered [] z after h = signed_numbered (is_negative z) _ (rows.number (unsigned_abs z) after) (variables_fault_number numbers _ (unsigned_abs z))
  sum_numbered (p ∷ ps) z after h =
      let follow = length (later_terms ps ++ later_constant z) + after in
      let begin = length (first_term p) + follow in
      chained_numbered begin (rows.operators_of (rows.later place ps z after)) _ _ (product_numbered (is_negative p.1) begin (unsigned_abs p.1) p.0 follow (h p.0 first)) (later_numbered ps z after (λ n a. h n (next a)))

  -- what stands for a row has no variable without a number
  pub row_numbered : (row : Row) (after : ℕ) → AreNumbered numbers place (row_variables row) → sides_fault numbers (rows.comparison place row after) ≡ None
  unfolding sides_fault rows.comparison
  row_numbered row after h = rw (sum_numbered row.pairs row.constant (length (relation_text row.rel) + after) h) (variables_fault_number numbers (1 + after) 0)
