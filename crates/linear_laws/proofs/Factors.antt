-- What `factors` makes equal.
use Rattle.std.proofs.Common.{◌≡◌, ℕ, zero, suc, ◌*◌, ◌<◌, ◌/◌, arith, refl, sym, ◌∙◌, ap}
use Rattle.std.specs.Prelude.{unsigned_abs}
use Rattle.std.proofs.Math.IntN.{ℤ, pos, negsuc, neg_ℤ, ◌+ℤ◌, ◌*ℤ◌, pos-*ℤ-pos}
use Rattle.std.proofs.lemmas.Int.{ints}
use Rattle.std.proofs.Math.Nat.{mul_assoc, mul_comm}
use Rattle.clp_rationals.proofs.Whole.{neg_mul, mul_neg}
use Rattle.linear_model.specs.Gcd.{gcd}
use Rattle.linear_model.specs.Elimination.{factors, opposed}
use Rattle.linear_laws.proofs.Gcd.{gcd_is, divided_back}

crossed : (a b g x y : ℕ) → x * g ≡ a → y * g ≡ b → x * b ≡ y * a
crossed a b g x y e f =
    ap (λ n. x * n) (sym f) ∙ (sym (mul_assoc x y g) ∙ (ap (λ n. n * g) (mul_comm x y) ∙ (mul_assoc y x g ∙ ap (λ n. y * n) e)))

-- |a| / g times |b| is |b| / g times |a|
pub factors_cross : (a b : ℤ) → let f = factors a b in f.1 * unsigned_abs b ≡ f.0 * unsigned_abs a
factors_cross a b =
    let m = unsigned_abs a in
    let n = unsigned_abs b in
    let i = gcd_is m n in
    crossed m n (gcd m n) (m / gcd m n) (n / gcd m n) (divided_back (gcd m n) m i.0) (divided_back (gcd m n) n i.1)

zero_times : (n : ℕ) → 0 * n ≡ 0
zero_times n = omega arith

pub quotient_positive : (m g : ℕ) → 0 < m → m / g * g ≡ m → 0 < m / g
quotient_positive m g h e = by (m / g) refl
  where
    by : (q : ℕ) → m / g ≡ q → 0 < m / g
    by zero z = absurd (let k : m / g * g ≡ 0 = ap (λ n. n * g) z ∙ zero_times g in omega arith)
    by (suc q) z = omega arith

pub factors_positive_1 : (a b : ℤ) → 0 < unsigned_abs a → 0 < (factors a b).1
factors_positive_1 a b h =
    let m = unsigned_abs a in
    let n = unsigned_abs b in
    quotient_positive m (gcd m n) h (divided_back (gcd m n) m (gcd_is m n).0)

pub factors_positive_0 : (a b : ℤ) → 0 < unsigned_abs b → 0 < (factors a b).0
factors_positive_0 a b h =
    let m = unsigned_abs a in
    let n = unsigned_abs b in
    quotient_positive n (gcd m n) h (divided_back (gcd m n) n (gcd_is m n).1)

-- a positive and a negative coefficient
pub opposite_cancel : (x y m n : ℕ) → x * n ≡ y * m → pos x *ℤ pos n +ℤ pos y *ℤ neg_ℤ (pos m) ≡ pos 0
opposite_cancel x y m n e =
    let a = mul_neg (pos y) (pos m) in
    let b = pos-*ℤ-pos y m in
    let c = pos-*ℤ-pos x n in
    let d : neg_ℤ (pos y *ℤ pos m) ≡ neg_ℤ (pos (y * m)) = ap neg_ℤ b in
    let f : pos (x * n) ≡ pos (y * m) = ap pos e in
    omega (arith, ints)

pub substituted_cancel : (c r : ℤ) → pos (factors c r).1 *ℤ r +ℤ opposed c r (factors c r).0 *ℤ c ≡ pos 0
substituted_cancel (pos m) (pos n) =
    let f = factors (pos m) (pos n) in
    let e = opposite_cancel f.1 f.0 m n (factors_cross (pos m) (pos n)) in
    let a = mul_neg (pos f.0) (pos m) in
    let b = neg_mul (pos f.0) (pos m) in
    omega (arith, ints)
substituted_cancel (pos m) (negsuc n) =
    let f = factors (pos m) (negsuc n) in
    let e = opposite_cancel f.1 f.0 m (suc n) (factors_cross (pos m) (negsuc n)) in
    let a = mul_neg (pos f.0) (pos m) in
    let b = mul_neg (pos f.1) (pos (suc n)) in
    omega (arith, ints)
substituted_cancel (negsuc m) (pos n) =
    opposite_cancel (factors (negsuc m) (pos n)).1 (factors (negsuc m) (pos n)).0 (suc m) n (factors_cross (negsuc m) (pos n))
substituted_cancel (negsuc m) (negsuc n) =
    let f = factors (negsuc m) (negsuc n) in
    let e = opposite_cancel f.1 f.0 (suc m) (suc n) (factors_cross (negsuc m) (negsuc n)) in
    let a = mul_neg (pos f.1) (pos (suc n)) in
    let b = neg_mul (pos f.0) (neg_ℤ (pos (suc m))) in
    omega (arith, ints)
