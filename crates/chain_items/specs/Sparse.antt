-- Multipliers of which only those that are not 0 are kept, by rising places.
use Rattle.std.specs.Prelude.{ℕ, zero, suc, ◌+◌, ◌<◌, ⊤, ℤ, List, [], ◌∷◌, Bool, true, ◌&&◌, unsigned_abs, nat_le, neg_ℤ, if◌then◌else◌}
use Rattle.linear_model.specs.Forms.{coefficient}

-- the numbers at n places from a place on
abbrev pub spread : ℕ → ℕ → List (ℕ × ℤ) → List ℤ
spread i zero ws = []
spread i (suc n) ws = coefficient ws i ∷ spread (i + 1) n ws

-- each magnitude is at most the limit
abbrev pub at_most : ℕ → List (ℕ × ℤ) → Bool
at_most limit [] = true
at_most limit (p ∷ ps) = nat_le (unsigned_abs p.1) limit && at_most limit ps

-- each place is below n
abbrev pub Below : ℕ → List (ℕ × ℤ) → Type 0
Below n [] = ⊤
Below n (p ∷ ps) = (p.0 < n) × Below n ps

-- the opposite, or the number itself
abbrev pub sign : Bool → ℤ → ℤ
sign b z = if b then neg_ℤ z else z
