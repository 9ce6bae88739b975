-- Clauses that are equal up to the numbers of their variables.
use Rattle.std.specs.Prelude.{◌≡◌, ℕ, ◌∷◌, map, All, Contains}
use Rattle.clp_model.specs.Trees.{mapped, mapped_all, variables_in}
use Rattle.clp_model.specs.Clauses.{Clause, sort_in}
use Rattle.linear_model.specs.Normal.{normal}
use Rattle.linear_model.specs.Changes.{renamed}
use Rattle.clause_model.specs.Variables.{rows_variables}
use Rattle.clause_model.specs.Canonical.{with_clean_rows}

-- each variable of a row is in the head or an atom
abbrev pub IsClosed : Clause → Type 0
IsClosed c = All (Contains (variables_in (c.head ∷ c.body))) (rows_variables c.rows)

-- The renaming f maps one clause to the other, once both have clean rows: the trees and sorts of the one become
-- those of the other, and its rows, in normal form again, are the rows of the other in their order.
pub record Renames (f : ℕ → ℕ) (c d : Clause) : Type 0 where
  pub injective : (m n : ℕ) → Contains (variables_in (c.head ∷ c.body)) m → Contains (variables_in (c.head ∷ c.body)) n → f m ≡ f n → m ≡ n
  pub head : mapped f c.head ≡ d.head
  pub body : mapped_all f c.body ≡ d.body
  pub sorts : (n : ℕ) → Contains (variables_in (c.head ∷ c.body)) n → sort_in d.sorts (f n) ≡ sort_in c.sorts n
  pub rows : map (λ r. normal (renamed f r)) (with_clean_rows c).rows ≡ (with_clean_rows d).rows

abbrev pub AreVariants : Clause → Clause → Type 0
AreVariants c d = (f : ℕ → ℕ) × Renames f c d
