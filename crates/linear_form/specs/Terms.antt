-- The terms while they are worked on from the first to the last.
use Rattle.std.specs.Prelude.{ℕ, zero, suc, List, [], ◌∷◌, Bool, true, false, ◌&&◌, not, nat_eq, if◌then◌else◌, Option, Some, None}
use Rattle.clp_rationals.specs.Fraction.{Fraction}
use Rattle.frac_model.specs.Reduced as frac
use Rattle.frac_model.specs.Results.{is_small}
use Rattle.form_model.specs.Forms.{each}

-- the coefficient that a variable has with c more
abbrev pub sum_with : Option Fraction → Fraction → Fraction
sum_with None c = c
sum_with (Some x) c = frac.sum x c

-- the coefficient of the variable is out of range
abbrev pub is_large : ℕ → List (ℕ × Fraction) → Bool
is_large v [] = false
is_large v (p ∷ ps) = if nat_eq v p.0 then not (is_small p.1) else is_large v ps

-- each coefficient from the i-th on by a function of it
abbrev pub each_from : (Fraction → Fraction) → ℕ → List (ℕ × Fraction) → List (ℕ × Fraction)
each_from g zero ps = each g ps
each_from g (suc i) [] = []
each_from g (suc i) (p ∷ ps) = p ∷ each_from g i ps

-- the first i coefficients are within the limit
abbrev pub are_small_to : ℕ → List (ℕ × Fraction) → Bool
are_small_to zero ps = true
are_small_to (suc i) [] = true
are_small_to (suc i) (p ∷ ps) = is_small p.1 && are_small_to i ps
