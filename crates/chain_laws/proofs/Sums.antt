-- Which sum of the first rows an item is.
use Rattle.std.specs.Prelude.{◌≡◌, ⊤, ◌⊎◌, ℕ, ℤ, pos, List, [], ◌∷◌}
use Rattle.clp_model.specs.Clauses.{Row}
use Rattle.clp_model.specs.declared.sort.Rel.{Rel}
use Rattle.clp_model.specs.declared.sort.Rel.TheVariants.{Eq, Le, Lt}
use Rattle.linear_model.specs.Forms.{coefficient}
use Rattle.linear_model.specs.Certificates.{weighted_coefficient, weighted_constant, Allowed, StrictUsed}
use Rattle.linear_model.specs.Items.{Item}

-- a multiplier for each row, and 0 for each inequality
abbrev pub OnEquations : List Row → List ℤ → Type 0
OnEquations [] [] = ⊤
OnEquations [] (m ∷ ms) = ⊥
OnEquations (r ∷ rs) [] = ⊥
OnEquations (r ∷ rs) (m ∷ ms) = ((r.rel ≡ Eq) ⊎ (m ≡ pos 0)) × OnEquations rs ms

-- the multipliers give a sum of this relation
abbrev pub Gives : Rel → List Row → List ℤ → Type 0
Gives Eq rows ms = OnEquations rows ms
Gives Le rows ms = Allowed rows ms
Gives Lt rows ms = Allowed rows ms × StrictUsed rows ms

pub record IsSum (rows : List Row) (i : Item) : Type 0 where
  pub coefficients : (v : ℕ) → coefficient i.row.pairs v ≡ weighted_coefficient rows i.m v
  pub constant : i.row.constant ≡ weighted_constant rows i.m
  pub gives : Gives i.row.rel rows i.m
