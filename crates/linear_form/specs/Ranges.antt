-- The range of the common denominator of a form, where its row is in range.
use Rattle.std.specs.Prelude.{◌≡◌, ⊤, ◌≤◌, ◌/◌, ℕ, List, [], ◌∷◌, false}
use Rattle.clp_rationals.specs.Fraction.{Fraction}
use Rattle.linear_model.specs.Forms.{is_zero}
use Rattle.linear_model.specs.Normal.{limit}

-- a fraction that is not 0 is multiplied by no more than the limit
abbrev pub Bounded : ℕ → Fraction → Type 0
Bounded l c = is_zero c.num ≡ false → l / c.den ≤ limit

abbrev pub AreBounded : ℕ → List (ℕ × Fraction) → Type 0
AreBounded l [] = ⊤
AreBounded l (p ∷ ps) = Bounded l p.1 × AreBounded l ps
