-- What stands for printed rows and constraints: the variables of rows become numbers, and the rows are kept in new numbers.
use Rattle.std.proofs.Common.{◌≡◌, ℕ, ◌+◌, List, [], ◌∷◌, ◌++◌, length, map, Bool, true, false, refl, sym, ◌∙◌, ap, subst, Ok, codes}
use Rattle.std.specs.Prelude.{◌==◌, if◌then◌else◌, unsigned_abs, Result}
use Rattle.std.specs.Fmt.{decimal}
use Rattle.std.proofs.Math.IntN.{ℤ}
use Rattle.std.proofs.lemmas.List.{append_assoc, append-nil}
use Rattle.token_model.specs.declared.fault.Fault.{Fault}
use Rattle.token_model.specs.Parsers.{Outcome, and_then}
use Rattle.clp_model.specs.Clauses.{Row}
use Rattle.clp_model.specs.Canonical.{place_in}
use Rattle.clp_model.proofs.Membership.{Among, first, next, among_front, distinct_append, distinct_has}
use Rattle.linear_model.specs.Normal.{IsNormal, is_within}
use Rattle.clause_model.specs.Variables.{row_variables, rows_variables}
use Rattle.clause_laws.proofs.Distinct.{AreDistinct}
use Rattle.clause_laws.proofs.Again.{place_apart}
use Rattle.clause_laws.proofs.Written.{written}
use Rattle.clp_grammar.specs.declared.expression.Operation.TheVariants.{Multiply}
use Rattle.clp_grammar.specs.declared.expression.Operator.{Operator}
use Rattle.clp_grammar.specs.declared.expression.Head.TheVariants as head
use Rattle.clp_grammar.specs.declared.expression.Expression.{Expression, Node}
use Rattle.clp_grammar.specs.Expressions.{chained}
use Rattle.clp_grammar.specs.Evaluation.{row_of}
use Rattle.clp_grammar.specs.Terms.{Meaning, number_in, met_num, met_all, met_each, sides_met, with_row, keeping, compare}
use Rattle.clp_grammar.specs.Clauses.{constrain_all}
use Rattle.clp_grammar.proofs.Parts.{met_all_node, met_all_number, met_all_variable}
use Rattle.print_model.specs.Terms.{variable_text}
use Rattle.standing_model.specs.Pieces.{placed}
use Rattle.standing_model.specs.Terms as standing
use Rattle.standing_model.specs.Rows as rows
use Rattle.standing_model.specs.Rows.{comparison, joined_to, later, later_number, operators_of, operands_of}
use Rattle.standing_model.specs.Clauses.{row_constraint, num_constraint}
use Rattle.evaluation_laws.proofs.Rows.{row_value}
use Rattle.evaluation_laws.proofs.States.{AreFirst, Known, meant, with_variables, CanMeet, first_before, number_found, met_num_is, within_told}

-- ---- variables of sums

module _ (place : ℕ → ℕ) where
  -- the variables, in order, are numbers
  abbrev met_nums : List ℕ → Meaning → Meaning
  met_nums [] m = m
  met_nums (n ∷ ns) m = met_nums ns (met_num (place n) m)

  signed_met : (b : Bool) (begin : ℕ) (e : Expression) (m : Meaning) → met_all (rows.signed b begin e) m ≡ met_all e m
  signed_met true begin e m = met_all_node begin head.Minus (e ∷ []) m
  signed_met false begin e m = refl

  product_met : (b : Bool) (begin magnitude n after : ℕ) (m : Meaning) → met_all (rows.product place b begin magnitude n after) m ≡ met_num (place n) m
  product_met b begin magnitude n after m = by (magnitude == 1)
    where
      v : Expression
      v = standing.variable place n after

      times : ℕ
      times = 1 + (length (variable_text n) + after)

      number : Expression
      number = rows.signed b begin (rows.number magnitude times)

      variable : (k : Meaning) → met_all v k ≡ met_num (place n) k
      variable k = met_all_variable _ (place n) k

      by : (t : Bool) → met_all (if t then rows.signed b begin v else Node begin (head.Chain (record { operation = Multiply; left = times } ∷ [])) (number ∷ v ∷ [])) m ≡ met_num (place n) m
      by true = signed_met b begin v m ∙ variable m
      by false =
          met_all_node begin (head.Chain (record { operation = Multiply; left = times } ∷ [])) (number ∷ v ∷ []) m
          ∙ variable (met_all number m)
          ∙ ap (met_num (place n)) (signed_met b begin (rows.number magnitude times) m ∙ met_all_number _ magnitude m)

  constant_met : (z : ℤ) (after : ℕ) (m : Meaning) → met_each (operands_of (later_number z after)) m ≡ m
  constant_met z after m = by (unsigned_abs z == 0)
    where
      by : (t : Bool) → met_each (operands_of (if t then [] else joined_to z (length (decimal (unsigned_abs z)) + after) (rows.number (unsigned_abs z) after) ∷ [])) m ≡ m
      by true = refl
      by false = met_all_number _ (unsigned_abs z) m

  later_met : (ps : List (ℕ × ℤ)) (z : ℤ) (after : ℕ) (m : Meaning) → met_each (operands_of (later place ps z after)) m ≡ met_nums (map (λ (p : ℕ × ℤ). p.0) ps) m
  later_met [] z after m = constant_met z after m
  later_met (p ∷ ps) z after m =
      ap (met_each (operands_of (later place ps z after))) (product_met false _ (unsigned_abs p.1) p.0 _ m) ∙ later_met ps z after (met_num (place p.0) m)

  chained_met : (begin : ℕ) (e : Expression) (xs : List (Operator × Expression)) (m : Meaning)
      → met_all (chained begin (operators_of xs) (e ∷ operands_of xs)) m ≡ met_each (operands_of xs) (met_all e m)
  unfolding chained
  chained_met begin e [] m = refl
  chained_met begin e (x ∷ xs) m = met_all_node begin (head.Chain (operators_of (x ∷ xs))) (e ∷ operands_of (x ∷ xs)) m

  sum_met : (ps : List (ℕ × ℤ)) (z : ℤ) (after : ℕ) (m : Meaning) → met_all (rows.sum place ps z after) m ≡ met_nums (map (λ (p : ℕ × ℤ). p.0) ps) m
  sum_met [] z after m = signed_met _ _ (rows.number (unsigned_abs z) after) m ∙ met_all_number _ (unsigned_abs z) m
  sum_met (p ∷ ps) z after m =
      let xs = later place ps z after in
      chained_met _ _ xs m
      ∙ ap (met_each (operands_of xs)) (product_met _ _ (unsigned_abs p.1) p.0 _ m)
      ∙ later_met ps z after (met_num (place p.0) m)

  sides : (row : Row) (after : ℕ) (m : Meaning) → sides_met (comparison place row after) m ≡ met_nums (row_variables row) m
  unfolding comparison
  sides row after m = met_all_number _ 0 (met_all (comparison place row after).first m) ∙ sum_met row.pairs row.constant _ m

-- ---- what is known after variables that are numbers

abbrev pub told_after : List ℕ → List ℕ → List ℕ
told_after nums [] = nums
told_after nums (n ∷ ns) = told_after (n ∷ nums) ns

abbrev pub told : Known → List ℕ → Known
told k ns = record k { found = with_variables k.found ns; nums = told_after k.nums ns }

told_append : (nums xs ys : List ℕ) → told_after (told_after nums xs) ys ≡ told_after nums (xs ++ ys)
told_append nums [] ys = refl
told_append nums (x ∷ xs) ys = told_append (x ∷ nums) xs ys

told_one : (names : List ℕ) (k : Known) (n : ℕ) (ns : List ℕ) → CanMeet names k (n ∷ ns) → CanMeet names (told k (n ∷ [])) ns
told_one names k n ns can = record { first = can.first; within = within_told k.found k.nums n can.within }

pub told_rest : (names : List ℕ) (k : Known) (xs ys : List ℕ) → CanMeet names k (xs ++ ys) → CanMeet names (told k xs) ys
told_rest names k [] ys can = can
told_rest names k (x ∷ xs) ys can = told_rest names (told k (x ∷ [])) xs ys (told_one names k x (xs ++ ys) can)

pub told_front : (names : List ℕ) (k : Known) (xs ys : List ℕ) → CanMeet names k (xs ++ ys) → CanMeet names k xs
told_front names k xs ys can = record {
  first = first_before names (with_variables k.found xs) ys (subst (AreFirst names) (distinct_append k.found xs ys) can.first);
  within = can.within;
}

module _ (names : List ℕ) (distinct : AreDistinct names) where
  abbrev place : ℕ → ℕ
  place n = place_in names n

  nums_met : (ns : List ℕ) (k : Known) → CanMeet names k ns → met_nums place ns (meant names k) ≡ meant names (told k ns)
  nums_met [] k can = refl
  nums_met (n ∷ ns) k can =
      let one : CanMeet names k (n ∷ []) = told_front names k (n ∷ []) ns can in
      ap (met_nums place ns) (met_num_is names k.found k.nums k.rows k.atoms n one.first can.within distinct)
      ∙ nums_met ns (told k (n ∷ [])) (told_one names k n ns can)

  -- ---- rows

  abbrev with_rows : Known → List Row → Known
  with_rows k rs = record k { rows = k.rows ++ map (written place) rs }

  row_compared : (row : Row) (after : ℕ) (k : Known) → IsNormal row → is_within row ≡ true → CanMeet names k (row_variables row)
      → compare (comparison place row after) (meant names k) ≡ Ok (tt, meant names (with_rows (told k (row_variables row)) (row ∷ [])))
  unfolding compare
  row_compared row after k is within can =
      let c = comparison place row after in
      let ns = row_variables row in
      let j = told k ns in
      let known = meant names j in
      let inside : (n : ℕ) → Among n ns → Among n j.found = λ n a. distinct_has k.found ns n a in
      let named : (n : ℕ) → Among n ns → Among n names = λ n a. subst (λ ms. Among n ms) can.first.1 (among_front n j.found can.first.0 (inside n a)) in
      let same : (n : ℕ) → Among n ns → number_in known (place n) ≡ place n = λ n a. number_found names j.found j.nums j.rows j.atoms n can.first (inside n a) in
      let value = row_value (number_in known) place place row after is within same (λ m n a b e. place_apart names m n (named m a) (named n b) e) in
      ap (λ m. keeping (row_of (number_in m) c) (λ r. with_row r m)) (sides place row after (meant names k) ∙ nums_met ns k can)
      ∙ ap (λ (v : Result Row Fault). keeping v (λ r. with_row r known)) value

  -- ---- constraints

  nums_constrained : (nums : List ℕ) (after : ℕ) (k : Known) → CanMeet names k nums
      → constrain_all (placed (codes ", ") (map (num_constraint place) nums) after) (meant names k) ≡ Ok (tt, meant names (told k nums))
  nums_constrained [] after k can = refl
  nums_constrained (n ∷ nums) after k can =
      let one : CanMeet names k (n ∷ []) = told_front names k (n ∷ []) nums can in
      ap (constrain_all (placed (codes ", ") (map (num_constraint place) nums) after)) (met_num_is names k.found k.nums k.rows k.atoms n one.first can.within distinct)
      ∙ nums_constrained nums after (told k (n ∷ [])) (told_one names k n nums can)

  pub constraints_meant : (rs : List Row) (nums : List ℕ) (after : ℕ) (k : Known) → ((r : Row) → Among r rs → IsNormal r × (is_within r ≡ true)) → CanMeet names k (rows_variables rs ++ nums)
      → constrain_all (placed (codes ", ") (map (row_constraint place) rs ++ map (num_constraint place) nums) after) (meant names k)
      ≡ Ok (tt, meant names (with_rows (told k (rows_variables rs ++ nums)) rs))
  constraints_meant [] nums after k each can =
      nums_constrained nums after k can ∙ ap (λ rs. Ok (tt, meant names (record (told k nums) { rows = rs }))) (sym (append-nil k.rows))
  constraints_meant (r ∷ rs) nums after k each can =
      let ns = row_variables r in
      let others = rows_variables rs ++ nums in
      let grouped = append_assoc ns (rows_variables rs) nums in
      let all : CanMeet names k (ns ++ others) = subst (CanMeet names k) grouped can in
      let own = each r first in
      let j = with_rows (told k ns) (r ∷ []) in
      let next_can : CanMeet names j others = (let t = told_rest names k ns others all in record { first = t.first; within = t.within }) in
      let rest = placed (codes ", ") (map (row_constraint place) rs ++ map (num_constraint place) nums) after in
      ap (λ (o : Outcome Meaning (Unit {0})). and_then o (λ u. constrain_all rest)) (row_compared r _ k own.0 own.1 (told_front names k ns others all))
      ∙ constraints_meant rs nums after j (λ s a. each s (next a)) next_can
      ∙ ap (λ found. Ok (tt, meant names (record k { found = found; nums = told_after (told_after k.nums ns) others; rows = (k.rows ++ written place r ∷ []) ++ map (written place) rs }))) (sym (distinct_append k.found ns others))
      ∙ ap (λ ms. Ok (tt, meant names (record k { found = with_variables k.found (ns ++ others); nums = ms; rows = (k.rows ++ written place r ∷ []) ++ map (written place) rs }))) (told_append k.nums ns others)
      ∙ ap (λ xs. Ok (tt, meant names (record k { found = with_variables k.found (ns ++ others); nums = told_after k.nums (ns ++ others); rows = xs }))) (append_assoc k.rows (written place r ∷ []) (map (written place) rs))
      ∙ ap (λ ms. Ok (tt, meant names (with_rows (told k ms) (r ∷ rs)))) (sym grouped)
