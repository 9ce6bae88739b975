-- Products of numbers below 2^63, and their sums, fit 128 bits.
use Rattle.std.proofs.Common.{◌≡◌, ℕ, ◌+◌, ◌*◌, ◌≤◌, arith, refl, to_z, of_z}
use Rattle.std.specs.Prelude.{unsigned_abs, FitsSigned}
use Rattle.std.proofs.Math.IntN.{ℤ, pos, negsuc, ◌+ℤ◌, ◌*ℤ◌}
use Rattle.std.proofs.lemmas.Int.{ints, to_z-of_z, unsigned_abs-mul, fits_signed_from_abs}
use Rattle.std.proofs.lemmas.Nat.{mul-le}
use mir.Syntax.{w128}
use Rattle.linear_model.specs.Normal.{limit}

product_small : (a x : ℤ) (m n : ℕ) → unsigned_abs a ≤ m → unsigned_abs x ≤ n → unsigned_abs (a *ℤ x) ≤ m * n
product_small a x m n h k = let e = unsigned_abs-mul a x in let f = mul-le (unsigned_abs a) (unsigned_abs x) m n h k in omega arith

sum_small : (y z : ℤ) (m n : ℕ) → unsigned_abs y ≤ m → unsigned_abs z ≤ n → unsigned_abs (y +ℤ z) ≤ m + n
sum_small (pos y) (pos z) m n h k = omega (arith, ints)
sum_small (negsuc y) (negsuc z) m n h k = omega (arith, ints)
sum_small (pos y) (negsuc z) m n h k = omega (arith, ints)
sum_small (negsuc y) (pos z) m n h k = omega (arith, ints)

product_fits : (a x : ℤ) → unsigned_abs a ≤ limit → unsigned_abs x ≤ limit → FitsSigned w128 (a *ℤ x)
product_fits a x h k = fits_signed_from_abs w128 (a *ℤ x) (let e = product_small a x limit limit h k in omega arith)

pub sum_fits : (a b : ℤ) (x y : ℕ) → unsigned_abs a ≤ limit → x ≤ limit → unsigned_abs b ≤ limit → y ≤ limit → FitsSigned w128 (a *ℤ pos x +ℤ b *ℤ pos y)
sum_fits a b x y ha hx hb hy =
    fits_signed_from_abs w128 (a *ℤ pos x +ℤ b *ℤ pos y)
    (let e = sum_small (a *ℤ pos x) (b *ℤ pos y) (limit * limit) (limit * limit) (product_small a (pos x) limit limit ha hx) (product_small b (pos y) limit limit hb hy) in omega arith)

-- the sum as the code computes it
pub sum_exact : (p q a b : ℤ) (x y : ℕ) → p ≡ a *ℤ pos x → q ≡ b *ℤ pos y → unsigned_abs a ≤ limit → x ≤ limit → unsigned_abs b ≤ limit → y ≤ limit
    → to_z w128 (of_z w128 (to_z w128 (of_z w128 p) +ℤ to_z w128 (of_z w128 q))) ≡ a *ℤ pos x +ℤ b *ℤ pos y
sum_exact p q a b x y e f ha hx hb hy =
    let g = product_fits a (pos x) ha hx in
    let h = product_fits b (pos y) hb hy in
    let s = sum_fits a b x y ha hx hb hy in
    rw (e, f, to_z-of_z w128 (a *ℤ pos x) g, to_z-of_z w128 (b *ℤ pos y) h, to_z-of_z w128 (a *ℤ pos x +ℤ b *ℤ pos y) s) refl
