-- A substitution is carried out in a clause, or why it is not.
use Rattle.std.specs.Prelude.{◌≡◌, ℕ, List, map, false, All}
use Rattle.clp_model.specs.declared.limit.Limit.TheVariants.{Shape}
use Rattle.clp_model.specs.declared.tree.Variable.{Variable}
use Rattle.clp_model.specs.declared.tree.Tree.{Tree}
use Rattle.clp_model.specs.Clauses.{Row}
use Rattle.linear_model.specs.Normal.{normal}
use Rattle.linear_model.specs.Changes.{renamed}
use Rattle.lin_row.specs.Rows.{IsKept}
use Rattle.substitution.specs.Made.{IsPastAny}
use Rattle.clause_model.specs.Canonical.{all_within}
use Rattle.clause_store.specs.declared.fault.ClauseFault.{ClauseFault}
use Rattle.clause_store.specs.declared.fault.ClauseFault.TheVariants as fault

-- these are the rows with their variables renamed, in normal form and in range
pub record HasRows (f : ℕ → ℕ) (rows made : List Row) : Type 0 where
  pub are : made ≡ map (λ r. normal (renamed f r)) rows
  pub kept : All IsKept made

-- a row leaves the range; or, where none does, one of the trees with the images is past the limits of a term
abbrev pub IsUnapplied : (ℕ → ℕ) → List Row → List (Tree Variable) → ClauseFault → Type 0
IsUnapplied f rows trees fault.Overflow = all_within (map (renamed f) rows) ≡ false
IsUnapplied f rows trees (fault.TooLarge limit) = (limit ≡ Shape) × ((made : List Row) × HasRows f rows made) × IsPastAny trees
IsUnapplied f rows trees fault.NoMemory = Unit {0}
