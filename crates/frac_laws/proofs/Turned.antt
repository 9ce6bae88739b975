-- The opposite of a fraction in lowest terms, and one over it, are in lowest terms.
use Rattle.std.proofs.Common.{◌≡◌, ℕ, zero, suc, ◌+◌, ◌*◌, ◌<◌, ◌≤◌, ◌⊎◌, inl, inr, false, arith, refl, sym, ◌∙◌, ap, subst}
use Rattle.std.specs.Prelude.{unsigned_abs}
use Rattle.std.proofs.Math.IntN.{ℤ, pos, negsuc, neg_ℤ, ◌*ℤ◌, pos-*ℤ-pos, neg_ℤ-neg_ℤ}
use Rattle.std.proofs.lemmas.Int.{unsigned_abs-mul}
use Rattle.std.proofs.lemmas.Nat.{mul-le}
use Rattle.std.proofs.lemmas.Bool.{cases_lt}
use Rattle.clp_rationals.specs.Fraction.{Fraction, IsLowest}
use Rattle.clp_rationals.proofs.Whole.{neg_mul}
use Rattle.linear_model.specs.Forms.{is_zero}
use Rattle.frac_model.specs.Reduced.{fraction, over, reciprocal, opposite}
use Rattle.frac_laws.proofs.Exact.{positive_product}

pub opposite_lowest : (f : Fraction) → IsLowest f → IsLowest (opposite f)
opposite_lowest f l =
    record {
      positive = l.positive;
      least = λ p q h e.
          l.least (neg_ℤ p) q h (neg_mul p (pos f.den) ∙ (ap neg_ℤ (e ∙ neg_mul f.num (pos q)) ∙ neg_ℤ-neg_ℤ (f.num *ℤ pos q)));
    }

positive_factor : (p n k : ℕ) → 0 < k → p * n ≡ k → 0 < p
positive_factor zero n k h e = absurd (let z : 0 * n ≡ 0 = omega arith in omega arith)
positive_factor (suc p) n k h e = omega arith

-- in p * n = d * q the first factor is at least d, so that the last is at least n
least_last : (p n d q : ℕ) → 0 < d → d ≤ p → p * n ≡ d * q → n ≤ q
least_last p n d q h le e = by (cases_lt q n)
  where
    by : (q < n) ⊎ (n ≤ q) → n ≤ q
    by (inr x) = x
    by (inl x) =
        let a = mul-le d (suc q) p n le (omega arith) in
        absurd (let b : d * suc q ≡ d * q + d = omega arith in omega arith)

-- the same of magnitudes
module _ (v : ℤ) (d : ℕ) (l : IsLowest (fraction v d)) where
  signed : (q k : ℕ) → q * d ≡ unsigned_abs v * k → (p : ℤ) × (p *ℤ pos d ≡ v *ℤ pos k)
  signed q k e = by v refl
    where
      by : (z : ℤ) → v ≡ z → (p : ℤ) × (p *ℤ pos d ≡ v *ℤ pos k)
      by (pos n) s =
          let f : q * d ≡ n * k = subst (λ z. q * d ≡ unsigned_abs z * k) s e in
          (pos q, pos-*ℤ-pos q d ∙ (ap pos f ∙ (sym (pos-*ℤ-pos n k) ∙ ap (λ z. z *ℤ pos k) (sym s))))
      by (negsuc n) s =
          let f : q * d ≡ suc n * k = subst (λ z. q * d ≡ unsigned_abs z * k) s e in
          let m = neg_mul (pos (suc n)) (pos k) in (
            neg_ℤ (pos q),
            neg_mul (pos q) (pos d) ∙ (ap neg_ℤ (pos-*ℤ-pos q d ∙ (ap pos f ∙ sym (pos-*ℤ-pos (suc n) k))) ∙ (sym m ∙ ap (λ z. z *ℤ pos k) (sym s))),
          )

  least_of_magnitudes : (p q : ℕ) → 0 < q → p * unsigned_abs v ≡ d * q → unsigned_abs v ≤ q
  least_of_magnitudes p q h e =
      let dq = positive_product d q l.positive h in
      let hp = positive_factor p (unsigned_abs v) (d * q) dq e in
      let s = signed q p (let a : q * d ≡ d * q = omega arith in let b : unsigned_abs v * p ≡ p * unsigned_abs v = omega arith in a ∙ (sym e ∙ sym b)) in
      let le = l.least s.0 p hp s.1 in
      least_last p (unsigned_abs v) d q l.positive le e

pub reciprocal_lowest : (f : Fraction) → is_zero f.num ≡ false → IsLowest f → IsLowest (reciprocal f)
reciprocal_lowest f z l = by f.num refl z
  where
    by : (n : ℤ) → f.num ≡ n → is_zero n ≡ false → IsLowest (over f.den n)
    by (pos zero) s t = absurd (cc)
    by (pos (suc n)) s t =
        record {
          positive = omega arith;
          least = λ p q h e.
              let a = sym (unsigned_abs-mul p (pos (suc n))) ∙ (ap unsigned_abs e ∙ unsigned_abs-mul (pos f.den) (pos q)) in
              let b = least_of_magnitudes f.num f.den l (unsigned_abs p) q h (ap (λ y. unsigned_abs p * unsigned_abs y) s ∙ a) in
              subst (λ y. unsigned_abs y ≤ q) s b;
        }
    by (negsuc n) s t =
        record {
          positive = omega arith;
          least = λ p q h e.
              let a = sym (unsigned_abs-mul p (pos (suc n))) ∙ (ap unsigned_abs (e ∙ neg_mul (pos f.den) (pos q)) ∙ (abs_neg (pos f.den *ℤ pos q) ∙ unsigned_abs-mul (pos f.den) (pos q))) in
              let b = least_of_magnitudes f.num f.den l (unsigned_abs p) q h (ap (λ y. unsigned_abs p * unsigned_abs y) s ∙ a) in
              subst (λ y. unsigned_abs y ≤ q) s b;
        }
      where
        abs_neg : (z : ℤ) → unsigned_abs (neg_ℤ z) ≡ unsigned_abs z
        abs_neg (pos zero) = refl
        abs_neg (pos (suc k)) = refl
        abs_neg (negsuc k) = refl
