-- The variables of a clause, in orders of their first occurrence.
use Rattle.std.specs.Prelude.{ℕ, suc, nat_eq, Bool, true, false, not, if◌then◌else◌, List, [], ◌∷◌, ◌++◌, map}
use Rattle.std.specs.List.{filter, list_any}
use Rattle.clp_model.specs.declared.sort.Sort.{Sort}
use Rattle.clp_model.specs.declared.sort.Sort.TheVariants.{Any, Num}
use Rattle.clp_model.specs.Trees.{variables_in}
use Rattle.clp_model.specs.Clauses.{Clause, Row}
use Rattle.clp_model.specs.Predicates.{distinct_after}

-- within a row by their numbers, since its variables rise
abbrev pub row_variables : Row → List ℕ
row_variables r = map (λ p. p.0) r.pairs

abbrev pub rows_variables : List Row → List ℕ
rows_variables [] = []
rows_variables (r ∷ rs) = row_variables r ++ rows_variables rs

-- the variables of the head, then of the atoms, then of the rows, each once, by first occurrence
abbrev pub variables_by_first_occurrence : Clause → List ℕ
variables_by_first_occurrence c = distinct_after nat_eq [] (variables_in (c.head ∷ c.body) ++ rows_variables c.rows)

abbrev pub is_num : Sort → Bool
is_num Num = true
is_num Any = false

-- the numbers from n on of the sorts that are Num
abbrev pub nums_from : ℕ → List Sort → List ℕ
nums_from n [] = []
nums_from n (s ∷ ss) = if is_num s then n ∷ nums_from (suc n) ss else nums_from (suc n) ss

-- the Num variables that are in no row, by rising number
abbrev pub loose_nums : Clause → List ℕ
loose_nums c = filter (λ n. not (list_any (λ m. nat_eq m n) (rows_variables c.rows))) (nums_from 1 c.sorts)

-- in the order of the text: the head, the rows, the Num variables in no row, and the atoms
abbrev pub variables_as_printed : Clause → List ℕ
variables_as_printed c = distinct_after nat_eq [] (variables_in (c.head ∷ []) ++ rows_variables c.rows ++ loose_nums c ++ variables_in c.body)
