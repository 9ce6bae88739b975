-- A sum of at most 129 products of a multiplier and a coefficient fits 128 bits.
use Rattle.std.proofs.Common.{ℕ, ◌+◌, ◌*◌, ◌≤◌, arith}
use Rattle.std.specs.Prelude.{unsigned_abs, FitsSigned}
use Rattle.std.proofs.Math.IntN.{ℤ, pos, negsuc, ◌+ℤ◌, ◌*ℤ◌}
use Rattle.std.proofs.lemmas.Int.{ints, unsigned_abs-mul, fits_signed_from_abs}
use Rattle.std.proofs.lemmas.Nat.{mul-le}
use mir.Syntax.{w128}
use Rattle.linear_model.specs.Normal.{limit}
use Rattle.linear_model.specs.Chain.{multiplier_limit}

product_small : (a x : ℤ) (m n : ℕ) → unsigned_abs a ≤ m → unsigned_abs x ≤ n → unsigned_abs (a *ℤ x) ≤ m * n
product_small a x m n h k = let e = unsigned_abs-mul a x in let f = mul-le (unsigned_abs a) (unsigned_abs x) m n h k in omega arith

sum_small : (y z : ℤ) (m n : ℕ) → unsigned_abs y ≤ m → unsigned_abs z ≤ n → unsigned_abs (y +ℤ z) ≤ m + n
sum_small (pos y) (pos z) m n h k = omega (arith, ints)
sum_small (negsuc y) (negsuc z) m n h k = omega (arith, ints)
sum_small (pos y) (negsuc z) m n h k = omega (arith, ints)
sum_small (negsuc y) (pos z) m n h k = omega (arith, ints)

pub next_small : (s m x : ℤ) → unsigned_abs x ≤ limit → unsigned_abs m ≤ multiplier_limit → unsigned_abs (s +ℤ m *ℤ x) ≤ unsigned_abs s + limit * multiplier_limit
next_small s m x h k =
    let e = product_small m x multiplier_limit limit k h in
    sum_small s (m *ℤ x) (unsigned_abs s) (limit * multiplier_limit) (omega arith) (omega arith)

pub next_fits : (s m x : ℤ) → unsigned_abs s ≤ 128 * (limit * multiplier_limit) → unsigned_abs x ≤ limit → unsigned_abs m ≤ multiplier_limit → FitsSigned w128 (s +ℤ m *ℤ x)
next_fits s m x g h k = fits_signed_from_abs w128 (s +ℤ m *ℤ x) (let e = next_small s m x h k in omega arith)
