-- Dividing by the greatest common divisor gives lowest terms.
use Rattle.std.proofs.Common.{◌≡◌, ℕ, zero, suc, ◌+◌, ◌*◌, ◌<◌, ◌≤◌, ◌/◌, ◌%◌, ◌⊎◌, inl, inr, arith, refl, sym, ◌∙◌, ap, subst}
use Rattle.std.specs.Prelude.{unsigned_abs, int_div}
use Rattle.std.specs.Int.{◌∣◌}
use Rattle.std.proofs.Math.IntN.{ℤ, pos, negsuc, neg_ℤ, ◌+ℤ◌, ◌*ℤ◌, *ℤ_comm, pos-*ℤ-pos}
use Rattle.std.proofs.lemmas.Int.{ints, unsigned_abs-mul}
use Rattle.std.proofs.lemmas.Nat.{div-add-mod', mul-le}
use Rattle.std.proofs.lemmas.Nat.Gcd.{le_of_dvd}
use Rattle.std.proofs.Math.Nat.{dvd-mul_left, dvd-mul_right, eq-zero_of_zero-dvd}
use Rattle.std.proofs.lemmas.Bool.{cases_lt}
use Rattle.clp_rationals.specs.Fraction.{Fraction, IsLowest, IsOver}
use Rattle.clp_rationals.proofs.Whole.{mul_assoc_ℤ, mul_add_ℤ, neg_mul, mul_neg}
use Rattle.clp_rationals.proofs.Lowest.{cancel_ℤ, lowest_over}
use Rattle.linear_model.specs.Gcd.{gcd}
use Rattle.frac_model.specs.Reduced.{reduced}
use Rattle.frac_laws.proofs.Gcd.{gcd_is, divided_back}

pub add_mul_ℤ : (a b c : ℤ) → (a +ℤ b) *ℤ c ≡ a *ℤ c +ℤ b *ℤ c
add_mul_ℤ a b c =
    let e = mul_add_ℤ c a b in
    let f = *ℤ_comm (a +ℤ b) c in
    let g = *ℤ_comm a c in
    let h = *ℤ_comm b c in cc

exact : (z : ℤ) (g : ℕ) → 0 < g → g ∣ unsigned_abs z → pos g *ℤ int_div z (pos g) ≡ z
exact (pos n) g h d = pos-*ℤ-pos g (n / g) ∙ ap pos (let e = divided_back g n d in omega arith)
exact (negsuc n) g h d = mul_neg (pos g) (pos (suc n / g)) ∙ (ap neg_ℤ (pos-*ℤ-pos g (suc n / g)) ∙ ap (λ k. neg_ℤ (pos k)) (let e = divided_back g (suc n) d in let f : g * (suc n / g) ≡ suc n = omega arith in f))

zero_times : (n : ℕ) → 0 * n ≡ 0
zero_times n = omega arith

quotient_positive : (m g : ℕ) → 0 < m → m / g * g ≡ m → 0 < m / g
quotient_positive m g h e = by (m / g) refl
  where
    by : (q : ℕ) → m / g ≡ q → 0 < m / g
    by zero z = absurd (let k : m / g * g ≡ 0 = ap (λ n. n * g) z ∙ zero_times g in omega arith)
    by (suc q) z = omega arith

-- ---- v and d are one multiple of the lowest terms
remainder : (v : ℤ) (d : ℕ) (f : Fraction) → 0 < f.den → IsOver v d f
    → (v +ℤ neg_ℤ (pos (d / f.den) *ℤ f.num)) *ℤ pos f.den ≡ f.num *ℤ pos (d % f.den)
remainder v d f h over =
    let k = d / f.den in
    let r = d % f.den in
    let e : d ≡ k * f.den + r = omega (arith, div-add-mod' d f.den) in
    let a = add_mul_ℤ v (neg_ℤ (pos k *ℤ f.num)) (pos f.den) in
    let b = neg_mul (pos k *ℤ f.num) (pos f.den) in
    let g : f.num *ℤ pos d ≡ f.num *ℤ (pos (k * f.den) +ℤ pos r) = ap (λ n. f.num *ℤ pos n) e in
    let i = mul_add_ℤ f.num (pos (k * f.den)) (pos r) in
    let j : f.num *ℤ pos (k * f.den) ≡ (pos k *ℤ f.num) *ℤ pos f.den =
    ap (λ z. f.num *ℤ z) (sym (pos-*ℤ-pos k f.den)) ∙ (sym (mul_assoc_ℤ f.num (pos k) (pos f.den)) ∙ ap (λ z. z *ℤ pos f.den) (*ℤ_comm f.num (pos k))) in
    omega (arith, ints)

pub whole_multiple : (v : ℤ) (d : ℕ) (f : Fraction) → IsLowest f → IsOver v d f → d % f.den ≡ 0
whole_multiple v d f low over = by (d % f.den) refl
  where
    by : (r : ℕ) → d % f.den ≡ r → d % f.den ≡ 0
    by zero e = e
    by (suc r) e =
        let k = low.least (v +ℤ neg_ℤ (pos (d / f.den) *ℤ f.num)) (d % f.den) (omega arith) (remainder v d f low.positive over) in
        let h = low.positive in
        absurd (omega arith)

positive_divisor : (g n : ℕ) → 0 < n → g ∣ n → 0 < g
positive_divisor zero n h z = absurd (let e = eq-zero_of_zero-dvd z in omega arith)
positive_divisor (suc g) n h z = omega arith

-- the greatest common divisor leaves no greater denominator than the lowest terms have
pub least_den : (v : ℤ) (d : ℕ) → 0 < d → (f : Fraction) → IsLowest f → IsOver v d f → d / gcd (unsigned_abs v) d ≤ f.den
least_den v d h f low over =
    let k = d / f.den in
    let g = gcd (unsigned_abs v) d in
    let i = gcd_is (unsigned_abs v) d in
    let z = whole_multiple v d f low over in
    let e : k * f.den ≡ d = omega (arith, div-add-mod' d f.den) in
    let m : v *ℤ pos f.den ≡ (f.num *ℤ pos k) *ℤ pos f.den =
    sym over ∙ (ap (λ x. f.num *ℤ pos x) (sym e) ∙ (ap (λ x. f.num *ℤ x) (sym (pos-*ℤ-pos k f.den)) ∙ sym (mul_assoc_ℤ f.num (pos k) (pos f.den)))) in
    let n : v ≡ f.num *ℤ pos k = cancel_ℤ v (f.num *ℤ pos k) f.den low.positive m in
    let kd : k ∣ d = subst (λ m. k ∣ m) e (dvd-mul_right k f.den) in
    let kv : k ∣ unsigned_abs v = subst (λ m. k ∣ m) (sym (ap unsigned_abs n ∙ unsigned_abs-mul f.num (pos k))) (dvd-mul_left k (unsigned_abs f.num)) in
    let le : k ≤ g = le_of_dvd (positive_divisor g d h i.1) (i.2 k kv kd) in
    at_most k f.den g (d / g) d h e (divided_back g d i.1) le
  where
    at_most : (k q g m n : ℕ) → 0 < n → k * q ≡ n → m * g ≡ n → k ≤ g → m ≤ q
    at_most k q g m n hn e f le = by (cases_lt q m)
      where
        by : (q < m) ⊎ (m ≤ q) → m ≤ q
        by (inr x) = x
        by (inl x) = let a = mul-le (suc q) k m g (omega arith) le in absurd (by_zero k e a)
          where
            by_zero : (k : ℕ) → k * q ≡ n → suc q * k ≤ m * g → ⊥
            by_zero zero e a = omega arith
            by_zero (suc k) e a = omega arith

swapped : (a b c : ℤ) → (a *ℤ b) *ℤ c ≡ (a *ℤ c) *ℤ b
swapped a b c = mul_assoc_ℤ a b c ∙ (ap (λ z. a *ℤ z) (*ℤ_comm b c) ∙ sym (mul_assoc_ℤ a c b))

-- p over q is v over d, where it is the divided fraction
back_to : (v n p : ℤ) (d e g q : ℕ) → pos g *ℤ n ≡ v → e * g ≡ d → p *ℤ pos e ≡ n *ℤ pos q → p *ℤ pos d ≡ v *ℤ pos q
back_to v n p d e g q i j k =
    let a : p *ℤ pos d ≡ (p *ℤ pos e) *ℤ pos g = ap (λ m. p *ℤ pos m) (sym j) ∙ (ap (λ z. p *ℤ z) (sym (pos-*ℤ-pos e g)) ∙ sym (mul_assoc_ℤ p (pos e) (pos g))) in
    a ∙ (ap (λ z. z *ℤ pos g) k ∙ (swapped n (pos q) (pos g) ∙ ap (λ z. z *ℤ pos q) (*ℤ_comm n (pos g) ∙ i)))

across : (v p : ℤ) (d q : ℕ) (f : Fraction) → 0 < d → IsOver v d f → p *ℤ pos d ≡ v *ℤ pos q → p *ℤ pos f.den ≡ f.num *ℤ pos q
across v p d q f h over e =
    cancel_ℤ (p *ℤ pos f.den) (f.num *ℤ pos q) d h
    (swapped p (pos f.den) (pos d) ∙ (ap (λ z. z *ℤ pos f.den) e ∙ (swapped v (pos q) (pos f.den) ∙ (ap (λ z. z *ℤ pos q) (sym over) ∙ swapped f.num (pos d) (pos q)))))

-- what the greatest common divisor divides is in lowest terms, and stands for the same rational
pub lowest : (v : ℤ) (d : ℕ) → 0 < d → IsLowest (reduced v d) × IsOver v d (reduced v d)
unfolding reduced
lowest v d h =
    let g = gcd (unsigned_abs v) d in
    let i = gcd_is (unsigned_abs v) d in
    let gp = positive_divisor g d h i.1 in
    let n = int_div v (pos g) in
    let e = d / g in
    let j = divided_back g d i.1 in
    let x = exact v g gp i.0 in
    let f = lowest_over v d h in
    let over : n *ℤ pos d ≡ v *ℤ pos e =
    ap (λ m. n *ℤ pos m) (sym j) ∙ (ap (λ z. n *ℤ z) (sym (pos-*ℤ-pos e g)) ∙ (sym (mul_assoc_ℤ n (pos e) (pos g))
    ∙ (swapped n (pos e) (pos g) ∙ ap (λ z. z *ℤ pos e) (*ℤ_comm n (pos g) ∙ x)))) in (
      record {
        positive = quotient_positive d g h j;
        least = λ p q hq k.
            let a = least_den v d h f.0 f.1 f.2 in
            let b = f.1.least p q hq (across v p d q f.0 h f.2 (back_to v n p d e g q x j k)) in omega arith;
      },
      over,
    )
