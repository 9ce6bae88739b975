-- What it means that multipliers show a row from rows.
use Rattle.std.specs.Prelude.{◌≡◌, ◌⊎◌, ⊤, ℕ, ℤ, pos, ◌*ℤ◌, ◌+ℤ◌, ◌≤ℤ◌, ◌<ℤ◌, List, [], ◌∷◌, All}
use Rattle.clp_model.specs.Values.{Valuation}
use Rattle.clp_model.specs.Clauses.{Row, RowHolds}
use Rattle.clp_model.specs.declared.sort.Rel.TheVariants.{Eq, Le, Lt}
use Rattle.linear_model.specs.Forms.{coefficient}

-- each valuation that makes the rows hold makes the row hold
abbrev pub Entails : List Row → Row → Type 0
Entails rows row = (u : Valuation) → All (RowHolds u) rows → RowHolds u row

abbrev pub Unsatisfiable : List Row → Type 0
Unsatisfiable rows = (u : Valuation) → ¬ (All (RowHolds u) rows)

-- a multiplier for the target, and one for each row
pub record Part : Type 0 where
  pub k : ℤ
  pub m : List ℤ

-- the coefficient of v in m1*L1 + .. + mn*Ln
abbrev pub weighted_coefficient : List Row → List ℤ → ℕ → ℤ
weighted_coefficient [] ms v = pos 0
weighted_coefficient (r ∷ rs) [] v = pos 0
weighted_coefficient (r ∷ rs) (m ∷ ms) v = m *ℤ coefficient r.pairs v +ℤ weighted_coefficient rs ms v

-- its constant
abbrev pub weighted_constant : List Row → List ℤ → ℤ
weighted_constant [] ms = pos 0
weighted_constant (r ∷ rs) [] = pos 0
weighted_constant (r ∷ rs) (m ∷ ms) = m *ℤ r.constant +ℤ weighted_constant rs ms

-- a multiplier for each row, and none of an inequality below 0
abbrev pub Allowed : List Row → List ℤ → Type 0
Allowed [] [] = ⊤
Allowed [] (m ∷ ms) = ⊥
Allowed (r ∷ rs) [] = ⊥
Allowed (r ∷ rs) (m ∷ ms) = ((r.rel ≡ Eq) ⊎ (pos 0 ≤ℤ m)) × Allowed rs ms

-- some strict row has a positive multiplier
abbrev pub StrictUsed : List Row → List ℤ → Type 0
StrictUsed [] ms = ⊥
StrictUsed (r ∷ rs) [] = ⊥
StrictUsed (r ∷ rs) (m ∷ ms) = ((r.rel ≡ Lt) × (pos 0 <ℤ m)) ⊎ StrictUsed rs ms

-- the part shows an inequality: the sum less k times the target is a constant c that is great enough
pub record Shows (rows : List Row) (target : Row) (part : Part) : Type 0 where
  pub allowed : Allowed rows part.m
  pub not_negative : pos 0 ≤ℤ part.k
  pub cancels : (v : ℕ) → weighted_coefficient rows part.m v ≡ part.k *ℤ coefficient target.pairs v
  pub c : ℤ
  pub constant : weighted_constant rows part.m ≡ part.k *ℤ target.constant +ℤ c
  pub enough : (pos 0 <ℤ c) ⊎ (((c ≡ pos 0) × StrictUsed rows part.m) ⊎ ((c ≡ pos 0) × (target.rel ≡ Le) × (pos 0 <ℤ part.k)))

-- the part shows that the rows have no common solution
pub record ShowsFalse (rows : List Row) (part : Part) : Type 0 where
  pub allowed : Allowed rows part.m
  pub cancels : (v : ℕ) → weighted_coefficient rows part.m v ≡ pos 0
  pub enough : (pos 0 <ℤ weighted_constant rows part.m) ⊎ ((weighted_constant rows part.m ≡ pos 0) × StrictUsed rows part.m)
