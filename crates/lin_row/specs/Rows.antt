-- Rows as the code makes them, and what is true of each row that it keeps.
use Rattle.std.specs.Prelude.{◌≡◌, ⊤, ℕ, ℤ, List, [], ◌∷◌, true, slice_index_or}
use Rattle.clp_model.specs.Clauses.{Row}
use Rattle.clp_model.specs.declared.sort.Rel.{Rel}
use Rattle.linear_model.specs.Forms.{Above, with_pair}
use Rattle.linear_model.specs.Normal.{IsNormal, is_within}

abbrev pub row_of : Rel → List (ℕ × ℤ) → ℤ → Row
row_of rel pairs constant = record { rel = rel; pairs = pairs; constant = constant }

-- variables rise; coefficients may be 0
abbrev pub VariablesRise : List (ℕ × ℤ) → Type 0
VariablesRise [] = ⊤
VariablesRise (p ∷ ps) = Above p.0 ps × VariablesRise ps

-- the pairs whose coefficient is not 0
abbrev pub nonzero : List (ℕ × ℤ) → List (ℕ × ℤ)
nonzero [] = []
nonzero (p ∷ ps) = with_pair p.0 p.1 (nonzero ps)

-- a row in normal form whose numbers are within the limit
pub record IsKept (r : Row) : Type 0 where
  pub within : is_within r ≡ true
  pub normal : IsNormal r

-- the number that a table of numbers gives variable v; variables count from 1
abbrev pub at : List ℕ → ℕ → ℕ
at numbers v = slice_index_or (0 ∷ numbers) v 0
