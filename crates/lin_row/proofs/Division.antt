-- Exact division of whole numbers.
use Rattle.std.proofs.Common.{◌≡◌, ℕ, zero, suc, ◌*◌, ◌<◌, ◌/◌, max, arith, sym, ◌∙◌, ap, subst}
use Rattle.std.specs.Prelude.{unsigned_abs, int_div}
use Rattle.std.specs.Int.{◌∣◌}
use Rattle.std.proofs.Math.IntN.{ℤ, pos, negsuc, neg_ℤ, ◌*ℤ◌, pos-*ℤ-pos}
use Rattle.std.proofs.lemmas.Int.{ints}
use Rattle.std.proofs.lemmas.Nat.Gcd.{dvd_refl, dvd-zero}
use Rattle.clp_rationals.proofs.Whole.{mul_neg, neg_mul}
use Rattle.lin_row.proofs.Divisors.{divided_back}

-- ---- exact division
pub exact : (z : ℤ) (g : ℕ) → 0 < g → g ∣ unsigned_abs z → pos g *ℤ int_div z (pos g) ≡ z
exact (pos n) g h d = pos-*ℤ-pos g (n / g) ∙ ap pos (let e = divided_back g n d in omega arith)
exact (negsuc n) g h d = mul_neg (pos g) (pos (suc n / g)) ∙ (ap neg_ℤ (pos-*ℤ-pos g (suc n / g)) ∙ ap (λ k. neg_ℤ (pos k)) (let e = divided_back g (suc n) d in let f : g * (suc n / g) ≡ suc n = omega arith in f))

pub exact_neg : (z : ℤ) (g : ℕ) → 0 < g → g ∣ unsigned_abs z → neg_ℤ (pos g) *ℤ int_div z (neg_ℤ (pos g)) ≡ z
exact_neg (pos n) zero h d = absurd (omega arith)
exact_neg (pos n) (suc g) h d =
    let q = int_div (pos n) (pos (suc g)) in
    let e = exact (pos n) (suc g) h d in
    let a = neg_mul (pos (suc g)) (neg_ℤ q) in
    let b = mul_neg (pos (suc g)) q in
    omega (arith, ints)
exact_neg (negsuc n) zero h d = absurd (omega arith)
exact_neg (negsuc n) (suc g) h d =
    ap (λ k. neg_ℤ (pos k)) (let e = divided_back (suc g) (suc n) d in let f : suc g * (suc n / suc g) ≡ suc n = omega arith in f)

pub max_divides : (g : ℕ) → max 1 g ∣ g
max_divides zero = let e : max 1 zero ≡ 1 = omega arith in subst (λ n. n ∣ 0) (sym e) (dvd-zero 1)
max_divides (suc g) = let e : max 1 (suc g) ≡ suc g = omega arith in subst (λ n. n ∣ suc g) (sym e) (dvd_refl (suc g))
