-- What divides all numbers of a cleared row shares nothing with the common denominator, so that each numerator is at
-- least as great.
use Rattle.std.proofs.Common.{◌≡◌, ℕ, zero, suc, ◌+◌, ◌*◌, ◌<◌, ◌≤◌, ◌/◌, ◌⊎◌, inl, inr, false, arith, refl, sym, ◌∙◌, ap, subst}
use Rattle.std.specs.Prelude.{unsigned_abs, int_div}
use Rattle.std.specs.Int.{◌∣◌}
use Rattle.std.proofs.Math.IntN.{ℤ, pos, negsuc, ◌*ℤ◌, *ℤ_comm, pos-*ℤ-pos}
use Rattle.std.proofs.Math.Nat.{mul_comm, dvd-mul_left}
use Rattle.std.proofs.lemmas.Int.{unsigned_abs-mul}
use Rattle.std.proofs.lemmas.Nat.{mul-le}
use Rattle.std.proofs.lemmas.Nat.Gcd.{dvd_trans, le_of_dvd, dvd_of_mod-eq-zero}
use Rattle.std.proofs.lemmas.Bool.{cases_lt}
use Rattle.clp_rationals.specs.Fraction.{Fraction, IsLowest}
use Rattle.clp_rationals.proofs.Whole.{mul_assoc_ℤ}
use Rattle.clp_rationals.proofs.Lowest.{cancel_ℤ}
use Rattle.linear_model.specs.Gcd.{gcd}
use Rattle.linear_model.specs.Forms.{is_zero}
use Rattle.lin_row.proofs.Division.{exact}
use Rattle.frac_laws.proofs.Gcd.{gcd_is, divided_back, gcd_positive, gcd_positive_last}
use Rattle.frac_laws.proofs.Reducing.{whole_multiple}
use Rattle.frac_laws.proofs.Exact.{swap_last}
use Rattle.form_model.specs.Forms.{cleared}
use Rattle.form_laws.proofs.Multiples.{quotient_divides}

nonzero_positive : (z : ℤ) → is_zero z ≡ false → 0 < unsigned_abs z
nonzero_positive (pos zero) e = absurd (cc)
nonzero_positive (pos (suc n)) e = omega arith
nonzero_positive (negsuc n) e = omega arith

by_one : (n : ℕ) → n / 1 ≡ n
by_one n = omega arith

at_most : (l g q : ℕ) → 0 < q → 0 < g → q * g ≡ l → l ≤ q → g ≡ 1
at_most l zero q hq hg e le = absurd (omega arith)
at_most l (suc zero) q hq hg e le = refl
at_most l (suc (suc g)) q hq hg e le = absurd (let k = mul-le q 2 q (suc (suc g)) (omega arith) (omega arith) in omega arith)

-- l is a multiple of all denominators, and m divides all numbers of the row
module _ (l m : ℕ) (hl : 0 < l) (hm : 0 < m) where
  abbrev h : ℕ
  h = gcd m l

  hp : 0 < h
  hp = gcd_positive m l hm

  pub part_shares : (f : Fraction) → IsLowest f → f.den ∣ l → m ∣ unsigned_abs (cleared l f) → f.den ∣ l / h
  part_shares f low d k =
      let i = gcd_is m l in
      let z = cleared l f in
      let v = int_div z (pos h) in
      let n = f.num in
      let x : pos h *ℤ v ≡ z = exact z h hp (dvd_trans h i.0 k) in
      let e1 : l / h * h ≡ l = divided_back h l i.1 in
      let e2 : l / f.den * f.den ≡ l = divided_back f.den l d in
      let both : pos (l / h) *ℤ pos h ≡ pos (l / f.den) *ℤ pos f.den = pos-*ℤ-pos (l / h) h ∙ (ap pos (e1 ∙ sym e2) ∙ sym (pos-*ℤ-pos (l / f.den) f.den)) in
      let over : n *ℤ pos (l / h) ≡ v *ℤ pos f.den =
      cancel_ℤ (n *ℤ pos (l / h)) (v *ℤ pos f.den) h hp
      (mul_assoc_ℤ n (pos (l / h)) (pos h) ∙ (ap (λ y. n *ℤ y) both ∙ (sym (mul_assoc_ℤ n (pos (l / f.den)) (pos f.den))
      ∙ (ap (λ y. y *ℤ pos f.den) (sym x ∙ *ℤ_comm (pos h) v) ∙ swap_last v (pos h) (pos f.den))))) in
      dvd_of_mod-eq-zero f.den (whole_multiple v (l / h) f low over)

  pub shares_nothing : l ∣ l / h → h ≡ 1
  shares_nothing d = by (l / h) refl d
    where
      by : (q : ℕ) → l / h ≡ q → l ∣ l / h → h ≡ 1
      by zero e d = absurd (let b = divided_back h l (gcd_is m l).1 in let z : 0 * h ≡ 0 = omega arith in let c = ap (λ n. n * h) e in omega arith)
      by (suc q) e d =
          let b = divided_back h l (gcd_is m l).1 in
          let c : suc q * h ≡ l = ap (λ n. n * h) (sym e) ∙ b in
          let le : l ≤ suc q = le_of_dvd (omega arith) (subst (λ n. l ∣ n) e d) in
          let up = hp in
          at_most l h (suc q) (omega arith) up c le

  module _ (one : h ≡ 1) (f : Fraction) (d : f.den ∣ l) (k : m ∣ unsigned_abs (cleared l f)) (nonzero : is_zero f.num ≡ false) where
    abbrev n : ℕ
    n = unsigned_abs f.num

    abbrev x : ℕ
    x = l / f.den

    product_is : unsigned_abs (cleared l f) ≡ x * n
    product_is = unsigned_abs-mul f.num (pos x) ∙ mul_comm n x

    x_divides : x ∣ l
    x_divides = subst (λ y. x ∣ y) (mul_comm f.den x ∙ divided_back f.den l d) (dvd-mul_left x f.den)

    no_factor : gcd x m ≡ 1
    no_factor =
        let i = gcd_is x m in
        let g = (gcd_is m l).2 (gcd x m) i.1 (dvd_trans (gcd x m) i.0 x_divides) in
        let le = le_of_dvd (omega arith) (subst (λ y. gcd x m ∣ y) one g) in
        let up = gcd_positive_last x m hm in omega arith

    divides_numerator : m ∣ n
    divides_numerator =
        subst (λ y. y ∣ n) (ap (λ y. m / y) no_factor ∙ by_one m) (quotient_divides m x n hm (subst (λ y. m ∣ y) product_is k))

    -- so that a number of the row in normal form is at least l over the denominator
    pub part_bound : (lim : ℕ) → unsigned_abs (cleared l f) ≤ lim * m → x ≤ lim
    part_bound lim w =
        let up = nonzero_positive f.num nonzero in
        let le : m ≤ n = le_of_dvd up divides_numerator in
        let a : x * n ≤ lim * m = subst (λ y. y ≤ lim * m) product_is w in
        let b = mul-le lim m lim n (omega arith) le in
        by (cases_lt lim x) (omega arith) up
      where
        by : (lim < x) ⊎ (x ≤ lim) → x * n ≤ lim * n → 0 < n → x ≤ lim
        by (inr y) a up = y
        by (inl y) a up = absurd (let c = mul-le (suc lim) n x n (omega arith) (omega arith) in let e : suc lim * n ≡ lim * n + n = omega arith in omega arith)
