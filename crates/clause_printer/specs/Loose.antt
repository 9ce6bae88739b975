-- The Num variables in no row, from a variable on, and what stands before a constraint.
use Rattle.std.specs.Prelude.{ℕ, nat_eq, not, Bool, List, codes, if◌then◌else◌}
use Rattle.std.specs.List.{filter, list_any}
use Rattle.clp_model.specs.declared.sort.Sort.{Sort}
use Rattle.clp_model.specs.Clauses.{Row}
use Rattle.clause_model.specs.Variables.{rows_variables, nums_from}

-- those of the variables n, n + 1 and so on, which have these sorts
abbrev pub loose : ℕ → List Row → List Sort → List ℕ
loose n rows sorts = filter (λ m. not (list_any (λ k. nat_eq k m) (rows_variables rows))) (nums_from n sorts)

-- a brace opens before the first constraint
abbrev pub before : Bool → List ℕ
before is_first = if is_first then codes "{" else codes ", "
