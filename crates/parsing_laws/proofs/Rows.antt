-- Printed rows, and Num variables in no row, are parsed as what stands for them.
use Rattle.std.proofs.Common.{◌≡◌, ℕ, suc, ◌+◌, ◌<◌, ◌≤◌, Bool, true, false, List, [], ◌∷◌, ◌++◌, length, map, refl, ap, ◌∙◌, sym, arith, append_assoc, append-nil, length-append, Ok, codes, Option, Some, ℤ}
use Rattle.std.proofs.lemmas.Bool.{and_parts}
use Rattle.std.proofs.lemmas.Fmt.{decimal_digit}
use Rattle.std.proofs.lemmas.List.Elements.{All-head, All-tail}
use Rattle.std.specs.Fmt.{decimal, signed_decimal}
use Rattle.std.specs.Int.{is_negative}
use Rattle.std.specs.Prelude.{unsigned_abs, nat_le, drop, All}
use Rattle.token_model.specs.declared.token.Lexeme.TheVariants as l
use Rattle.token_model.specs.Numbers.{max_number}
use Rattle.token_model.specs.White.{skipped}
use Rattle.token_model.specs.Remaining.{Remaining, ahead, lexeme, left}
use Rattle.token_model.specs.Parsers.{Outcome, and_then, ◌>>=◌, pure}
use Rattle.printed_tokens.proofs.Marks.{equal_is, at_most_is, less_is}
use Rattle.printed_tokens.proofs.Numbers.{number_stays}
use Rattle.linear_model.specs.Normal.{is_within, pairs_within, limit}
use Rattle.clp_model.specs.declared.sort.Rel.{Rel}
use Rattle.clp_model.specs.declared.sort.Rel.TheVariants.{Eq, Le, Lt}
use Rattle.clp_model.specs.Clauses.{Row}
use Rattle.clause_model.specs.Variables.{row_variables, rows_variables}
use Rattle.clp_grammar.specs.declared.expression.Head.TheVariants.{Application}
use Rattle.clp_grammar.specs.declared.expression.Expression.{Expression, Number, Variable, Node}
use Rattle.clp_grammar.specs.declared.draft.Relation.{Relation}
use Rattle.clp_grammar.specs.declared.draft.Comparison.{Comparison}
use Rattle.clp_grammar.specs.declared.draft.Constraint.TheVariants as constraint
use Rattle.clp_grammar.specs.Input.{Input, peek}
use Rattle.clp_grammar.specs.Expressions.{expression}
use Rattle.clp_grammar.specs.Goals.{relation_of, related, comparison, comparison_by, max_inside, constraint_by, constrained, num_by, num_variable}
use Rattle.clp_grammar.proofs.Parts.{num_variable_node}
use Rattle.print_model.specs.Names.{predicate_text}
use Rattle.print_model.specs.Terms.{variable_text}
use Rattle.print_model.specs.Rows.{product_text, first_term, later_terms, later_constant, sum_text, relation_text, row_text}
use Rattle.print_model.specs.Clauses.{num_text}
use Rattle.standing_model.specs.Terms as standing
use Rattle.standing_model.specs.Rows as rows
use Rattle.standing_model.specs.Clauses.{row_constraint, num_constraint}
use Rattle.parsing_laws.specs.Places.{at, known, met, Placed}
use Rattle.parsing_laws.specs.Behind.{behind, ends, Stops}
use Rattle.parsing_laws.proofs.States.{passes, stops_ends, stops_equal, stops_at_most, stops_less, no_relation}
use Rattle.parsing_laws.proofs.Chains.{alone}
use Rattle.parsing_laws.proofs.Factors.{Breaks, sign_text, number_factor}
use Rattle.parsing_laws.proofs.Sums.{sum_is, in_range, signed_decimal_is, product_stays, tail}
use Rattle.parsing_laws.proofs.Terms.{IsWritten, other_parsed, variable_written, application_written}
use Rattle.parsing_laws.proofs.Lists.{IsItem, AreItems}

-- ---- relations

-- the relation comes next, and then ` 0`
record IsRelated (rel : Rel) (z : List ℕ) : Type 0 where
  stops : Stops ends (relation_text rel ++ z)
  relation : (after_number : Bool) → relation_of (lexeme (behind (relation_text rel ++ z) after_number)) ≡ Some (rows.relation_of rel)

related_by : (rel : Rel) (z : List ℕ) → IsRelated rel z
unfolding ahead skipped
related_by Eq z = record { stops = stops_equal (48 ∷ z); relation = λ a. ap relation_of (equal_is (behind (32 ∷ 61 ∷ 32 ∷ 48 ∷ z) a) (48 ∷ z) refl).lexeme }
related_by Le z = record { stops = stops_at_most (32 ∷ 48 ∷ z); relation = λ a. ap relation_of (at_most_is (behind (32 ∷ 61 ∷ 60 ∷ 32 ∷ 48 ∷ z) a) (32 ∷ 48 ∷ z) refl).lexeme }
related_by Lt z = record { stops = stops_less (32 ∷ 48 ∷ z); relation = λ a. ap relation_of (less_is (behind (32 ∷ 60 ∷ 32 ∷ 48 ∷ z) a) (32 ∷ 48 ∷ z) refl).lexeme }

zero_is : (more : ℕ) (ms : List ℕ) (z : List ℕ) → Stops ends z → expression more (at (behind (32 ∷ 48 ∷ z) false) (known ms)) ≡ Ok (Number (1 + length z) 0, at (behind z true) (known ms))
unfolding ahead skipped
zero_is more ms z stops =
    let r = behind (32 ∷ 48 ∷ z) false in
    let place = λ (n : ℕ). n in
    let factor = number_factor place 0 (omega arith) in
    let digits : decimal 0 ≡ 48 ∷ [] = decimal_digit 0 (omega arith) in
    let front : ahead (behind (32 ∷ 48 ∷ z) false) ≡ decimal 0 ++ z = ap (λ (ds : List ℕ). ds ++ z) (sym digits) in
    let breaks : Breaks z = record { name = stops.name; number = stops.number } in
    alone more (rows.number 0 (length z)) r (behind z true) (known ms) (known ms) (factor.no_sign ms r z tt front breaks) (stops.next true) (factor.is more ms r z tt front breaks)
    ∙ ap (λ (ds : List ℕ). Ok (Number (length ds + length z) 0, at (behind z true) (known ms))) digits

-- the relation and its second side
related_is : (more : ℕ) (first : Expression) (rel : Rel) (ms : List ℕ) (a : Bool) (z : List ℕ) → Stops ends z
    → related more first (rows.relation_of rel) (at (behind (relation_text rel ++ z) a) (known ms))
    ≡ Ok (record { left = length (drop 1 (relation_text rel)) + length z; relation = rows.relation_of rel; first = first; second = Number (1 + length z) 0 }, at (behind z true) (known ms))
unfolding related ahead skipped left
related_is more first rel ms a z stops = go rel
  where
    -- the second side, behind a relation at this place
    second : Relation → ℕ → Input → Outcome Input Comparison
    second relation place i = and_then (expression more i) (λ e. pure (record { left = place; relation = relation; first = first; second = e }))

    compared : Relation → ℕ → Outcome Input Comparison
    compared relation place = Ok (record { left = place; relation = relation; first = first; second = Number (1 + length z) 0 }, at (behind z true) (known ms))

    rest : (relation : Relation) (place : ℕ) → second relation place (at (behind (32 ∷ 48 ∷ z) false) (known ms)) ≡ compared relation place
    rest relation place = ap (λ (o : Outcome Input Expression). and_then o (λ e. pure (record { left = place; relation = relation; first = first; second = e }))) (zero_is more ms z stops)

    by : (relation : Relation) (m n : ℕ) → m ≡ n → compared relation m ≡ compared relation n
    by relation m n e = ap (compared relation) e

    go : (rel : Rel) → related more first (rows.relation_of rel) (at (behind (relation_text rel ++ z) a) (known ms))
        ≡ Ok (record { left = length (drop 1 (relation_text rel)) + length z; relation = rows.relation_of rel; first = first; second = Number (1 + length z) 0 }, at (behind z true) (known ms))
    go Eq =
        let r = behind (32 ∷ 61 ∷ 32 ∷ 48 ∷ z) a in
        let relation = rows.relation_of Eq in
        ap (second relation (suc (suc (suc (length z))))) (passes r l.Equal (61 ∷ []) (32 ∷ 48 ∷ z) (known ms) (equal_is r (48 ∷ z) refl))
        ∙ rest relation (suc (suc (suc (length z)))) ∙ by relation (suc (suc (suc (length z)))) (3 + length z) (omega arith)
    go Le =
        let r = behind (32 ∷ 61 ∷ 60 ∷ 32 ∷ 48 ∷ z) a in
        let relation = rows.relation_of Le in
        ap (second relation (suc (suc (suc (suc (length z)))))) (passes r l.AtMost (61 ∷ 60 ∷ []) (32 ∷ 48 ∷ z) (known ms) (at_most_is r (32 ∷ 48 ∷ z) refl))
        ∙ rest relation (suc (suc (suc (suc (length z))))) ∙ by relation (suc (suc (suc (suc (length z))))) (4 + length z) (omega arith)
    go Lt =
        let r = behind (32 ∷ 60 ∷ 32 ∷ 48 ∷ z) a in
        let relation = rows.relation_of Lt in
        ap (second relation (suc (suc (suc (length z))))) (passes r l.Less (60 ∷ []) (32 ∷ 48 ∷ z) (known ms) (less_is r (32 ∷ 48 ∷ z) refl))
        ∙ rest relation (suc (suc (suc (length z)))) ∙ by relation (suc (suc (suc (length z)))) (3 + length z) (omega arith)

-- ---- rows

module _ (place : ℕ → ℕ) (row : Row) (within : is_within row ≡ true) (ms : List ℕ) (r : Remaining) (z : List ℕ) (numbers : Placed place ms (row_variables row)) (front : ahead r ≡ row_text row ++ z) (stops : Stops ends z) where
  abbrev sum_of : Expression
  sum_of = rows.sum place row.pairs row.constant (length (relation_text row.rel) + length z)

  first_side : (more : ℕ) → (a : Bool) × (expression more (at r (known ms)) ≡ Ok (sum_of, at (behind (relation_text row.rel ++ z) a) (known (met ms (row_variables row)))))
  unfolding row_text
  first_side more =
      let both = and_parts (pairs_within row.pairs) (nat_le (unsigned_abs row.constant) limit) within in
      let small : unsigned_abs row.constant ≤ max_number = in_range (unsigned_abs row.constant) both.1 in
      let grouped : ahead r ≡ sum_text row.pairs row.constant ++ (relation_text row.rel ++ z) = front ∙ append_assoc (sum_text row.pairs row.constant) (relation_text row.rel) z in
      let sum = sum_is place row.pairs row.constant more ms r (relation_text row.rel ++ z) both.0 small numbers grouped (related_by row.rel z).stops in (
        sum.0,
        sum.1 ∙ ap (λ (k : ℕ). Ok (rows.sum place row.pairs row.constant k, at (behind (relation_text row.rel ++ z) sum.0) (known (met ms (row_variables row))))) (length-append (relation_text row.rel) z),
      )

  -- a row by itself
  pub comparison_is : (more : ℕ) → comparison more (at r (known ms)) ≡ Ok (rows.comparison place row (length z), at (behind z true) (known (met ms (row_variables row))))
  unfolding comparison rows.comparison
  comparison_is more =
      let first = first_side more in
      let names = known (met ms (row_variables row)) in
      ap (λ (o : Outcome Input Expression). and_then o (λ e. peek >>= (λ next. comparison_by more e (relation_of next)))) first.1
      ∙ ap (λ (o : Option Relation). comparison_by more sum_of o (at (behind (relation_text row.rel ++ z) first.0) names)) ((related_by row.rel z).relation first.0)
      ∙ related_is more sum_of row.rel (met ms (row_variables row)) first.0 z stops

  -- in braces
  constrained_is : constrained (at r (known ms)) ≡ Ok (constraint.Comparison (rows.comparison place row (length z)), at (behind z true) (known (met ms (row_variables row))))
  unfolding constrained rows.comparison
  constrained_is =
      let first = first_side max_inside in
      let names = known (met ms (row_variables row)) in
      ap (λ (o : Outcome Input Expression). and_then o (λ e. peek >>= (λ next. constraint_by e (relation_of next)))) first.1
      ∙ ap (λ (o : Option Relation). constraint_by sum_of o (at (behind (relation_text row.rel ++ z) first.0) names)) ((related_by row.rel z).relation first.0)
      ∙ ap (λ (o : Outcome Input Comparison). and_then o (λ c. pure (constraint.Comparison c))) (related_is max_inside sum_of row.rel (met ms (row_variables row)) first.0 z stops)

-- no row begins with white or a comment
sign_stays : (t : Bool) (y : List ℕ) → skipped y ≡ y → skipped (sign_text t ++ y) ≡ sign_text t ++ y
unfolding skipped
sign_stays true y h = refl
sign_stays false y h = h

sum_stays : (ps : List (ℕ × ℤ)) (c : ℤ) (z : List ℕ) → pairs_within ps ≡ true → unsigned_abs c ≤ max_number → skipped (sum_text ps c ++ z) ≡ sum_text ps c ++ z
sum_stays [] c z within small =
    let e : signed_decimal c ++ z ≡ sign_text (is_negative c) ++ (decimal (unsigned_abs c) ++ z) = ap (λ (y : List ℕ). y ++ z) (signed_decimal_is c) ∙ append_assoc (sign_text (is_negative c)) (decimal (unsigned_abs c)) z in
    ap skipped e ∙ sign_stays (is_negative c) (decimal (unsigned_abs c) ++ z) (number_stays (unsigned_abs c) z small) ∙ sym e
sum_stays (p ∷ ps) c z within small =
    let both = and_parts (nat_le (unsigned_abs p.1) limit) (pairs_within ps) within in
    let text = product_text (unsigned_abs p.1) p.0 in
    let few : unsigned_abs p.1 ≤ max_number = in_range (unsigned_abs p.1) both.0 in
    let e : sum_text (p ∷ ps) c ++ z ≡ sign_text (is_negative p.1) ++ (product_text (unsigned_abs p.1) p.0 ++ tail ps c z) =
    append_assoc (first_term p) (later_terms ps ++ later_constant c) z ∙ append_assoc (sign_text (is_negative p.1)) text (tail ps c z) in
    ap skipped e ∙ sign_stays (is_negative p.1) (text ++ tail ps c z) (product_stays (unsigned_abs p.1) p.0 (tail ps c z) few) ∙ sym e

relation_long : (rel : Rel) → 0 < length (relation_text rel)
relation_long Eq = omega arith
relation_long Le = omega arith
relation_long Lt = omega arith

pub row_item : (place : ℕ → ℕ) (row : Row) → is_within row ≡ true → IsItem constrained place (row_constraint place row) (row_variables row)
unfolding row_text
row_item place row within =
    let both = and_parts (pairs_within row.pairs) (nat_le (unsigned_abs row.constant) limit) within in
    let small : unsigned_abs row.constant ≤ max_number = in_range (unsigned_abs row.constant) both.1 in
    let text = sum_text row.pairs row.constant in
    let mark = relation_text row.rel in
    record {
      stays = λ z. ap skipped (append_assoc text mark z) ∙ sum_stays row.pairs row.constant (mark ++ z) both.0 small ∙ sym (append_assoc text mark z);
      long = omega (arith, relation_long row.rel, length-append text mark);
      is = λ ms r z numbers front stops. (true, constrained_is place row within ms r z numbers front (stops_ends z stops));
    }

-- ---- Num variables in no row

num_variable_is : (begin place n : ℕ) → num_variable (Node begin (Application (codes "num")) (Variable place n ∷ [])) ≡ Some n
num_variable_is begin place n = num_variable_node begin (Application (codes "num")) (Variable place n ∷ [])

num_expression : (place : ℕ → ℕ) (n : ℕ) → IsWritten place (num_text n) (standing.applied (codes "num") (standing.other (variable_text n) (standing.variable place n) ∷ [])) 1 (n ∷ [])
unfolding predicate_text
num_expression place n =
    let v = standing.other (variable_text n) (standing.variable place n) in
    let parsed = other_parsed place (variable_text n) (standing.variable place n) 0 (n ∷ []) (variable_written place n 0) in
    let text : codes "num" ++ (codes "(" ++ ((variable_text n ++ []) ++ codes ")")) ≡ num_text n = ap (λ (y : List ℕ). codes "num(" ++ (y ++ codes ")")) (append-nil (variable_text n)) in
    rw text at (application_written place (codes "num") v [] 0 (n ∷ []) (omega arith) (n ∷ [], [], parsed, refl, sym (append-nil (n ∷ []))))

pub num_item : (place : ℕ → ℕ) (n : ℕ) → IsItem constrained place (num_constraint place n) (n ∷ [])
unfolding constrained
num_item place n =
    let w = num_expression place n in
    record {
      stays = w.stays;
      long = w.long;
      is = λ ms r z numbers front stops. (
        false,
        ap (λ (o : Outcome Input Expression). and_then o (λ e. peek >>= (λ next. constraint_by e (relation_of next)))) (w.is max_inside ms r z (omega arith) numbers front (stops_ends z stops))
            ∙ ap (λ (o : Option Relation). constraint_by (standing.applied (codes "num") (standing.other (variable_text n) (standing.variable place n) ∷ []) (length z)) o (at (behind z false) (known (met ms (n ∷ [])))))
            (no_relation (lexeme (behind z false)) (stops.next false))
            ∙ ap (λ (o : Option ℕ). num_by o (at (behind z false) (known (met ms (n ∷ []))))) (num_variable_is _ _ (place n)),
      );
    }

-- ---- all constraints

pub constraint_items : (place : ℕ → ℕ) (rs : List Row) (nums : List ℕ) → All (λ r. is_within r ≡ true) rs
    → AreItems constrained place (map (row_constraint place) rs ++ map (num_constraint place) nums) (rows_variables rs ++ nums)
constraint_items place [] [] within = refl
constraint_items place [] (n ∷ nums) within = (n ∷ [], nums, num_item place n, constraint_items place [] nums within, refl)
constraint_items place (r ∷ rs) nums within = (
  row_variables r,
  rows_variables rs ++ nums,
  row_item place r (All-head (λ (r : Row). is_within r ≡ true) r rs within),
  constraint_items place rs nums (All-tail (λ (r : Row). is_within r ≡ true) r rs within),
  append_assoc (row_variables r) (rows_variables rs) nums,
)
