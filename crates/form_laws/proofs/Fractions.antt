-- Laws of fractions in lowest terms that the values of forms need.
use Rattle.std.proofs.Common.{◌≡◌, ℕ, zero, suc, ◌*◌, ◌/◌, arith, refl, sym, ◌∙◌, ap}
use Rattle.std.proofs.Math.IntN.{ℤ, pos, negsuc, neg_ℤ, ◌+ℤ◌, ◌*ℤ◌, zero-*ℤ, neg_ℤ-neg_ℤ}
use Rattle.std.proofs.lemmas.Int.{ints}
use Rattle.clp_rationals.specs.Fraction.{Fraction, IsLowest}
use Rattle.clp_rationals.proofs.Whole.{neg_mul}
use Rattle.clp_rationals.proofs.Lowest.{only_one}
use Rattle.linear_model.specs.Gcd.{gcd}
use Rattle.frac_model.specs.Reduced.{fraction, reduced, sum, product, opposite}
use Rattle.frac_laws.proofs.Reducing.{lowest}
use Rattle.frac_laws.proofs.Exact.{positive_product}
use Rattle.frac_laws.proofs.Inverses.{sum_commutes, product_commutes, sum_associates, product_associates, product_distributes}

abbrev pub none : Fraction
none = fraction (pos 0) 1

pub whole_lowest : (n : ℤ) → IsLowest (fraction n 1)
whole_lowest n = record { positive = omega arith; least = λ p q h e. omega arith }

pub sum_none : (f : Fraction) → IsLowest f → sum f none ≡ f
sum_none f l =
    let v = f.num *ℤ pos 1 +ℤ pos 0 *ℤ pos f.den in
    let d = f.den * 1 in
    let z = zero-*ℤ (pos f.den) in
    let ev : v ≡ f.num = omega (arith, ints) in
    let ed : d ≡ f.den = omega arith in
    let h = positive_product f.den 1 l.positive (omega arith) in
    let low = lowest v d h in
    only_one v d h (sum f none) f low.0 l low.1 (ap (λ n. f.num *ℤ pos n) ed ∙ ap (λ y. y *ℤ pos f.den) (sym ev))

pub product_of_none : (f x : Fraction) → IsLowest f → IsLowest x → f.num ≡ pos 0 → product f x ≡ none
product_of_none f x l m e =
    let v = f.num *ℤ x.num in
    let d = f.den * x.den in
    let h = positive_product f.den x.den l.positive m.positive in
    let low = lowest v d h in
    let z : v ≡ pos 0 = ap (λ y. y *ℤ x.num) e ∙ zero-*ℤ x.num in
    only_one v d h (product f x) none low.0 (whole_lowest (pos 0)) low.1 (zero-*ℤ (pos d) ∙ sym (ap (λ y. y *ℤ pos 1) z))

pub product_of_one : (x : Fraction) → IsLowest x → product (fraction (pos 1) 1) x ≡ x
product_of_one x l =
    let v = pos 1 *ℤ x.num in
    let d = 1 * x.den in
    let h = positive_product 1 x.den (omega arith) l.positive in
    let low = lowest v d h in
    let ev : v ≡ x.num = omega (arith, ints) in
    let ed : d ≡ x.den = omega arith in
    only_one v d h (product (fraction (pos 1) 1) x) x low.0 l low.1 (ap (λ n. x.num *ℤ pos n) ed ∙ ap (λ y. y *ℤ pos x.den) (sym ev))

-- ---- order and grouping
module _ (a b c : Fraction) (la : IsLowest a) (lb : IsLowest b) (lc : IsLowest c) where
  pub sum_turned : sum (sum a b) c ≡ sum (sum a c) b
  sum_turned = sum_associates a b c la lb lc ∙ (ap (λ s. sum a s) (sum_commutes b c) ∙ sym (sum_associates a c b la lc lb))

  pub product_turned : product (product a b) c ≡ product (product a c) b
  product_turned = product_associates a b c la lb lc ∙ (ap (λ s. product a s) (product_commutes b c) ∙ sym (product_associates a c b la lc lb))

  pub sum_times : product (sum a b) c ≡ sum (product a c) (product b c)
  sum_times =
      product_commutes (sum a b) c ∙ (product_distributes c a b lc la lb
      ∙ (ap (λ s. sum s (product c b)) (product_commutes c a) ∙ ap (λ s. sum (product a c) s) (product_commutes c b)))

  pub sum_exchanged : (d : Fraction) → IsLowest d → IsLowest (sum b d) → IsLowest (sum c d) → sum (sum a b) (sum c d) ≡ sum (sum a c) (sum b d)
  sum_exchanged d ld lbd lcd =
      sum_associates a b (sum c d) la lb lcd
      ∙ (ap (λ s. sum a s) (sym (sum_associates b c d lb lc ld) ∙ (ap (λ s. sum s d) (sum_commutes b c) ∙ sum_associates c b d lc lb ld))
      ∙ sym (sum_associates a c (sum b d) la lc lbd))

-- ---- opposites
zero_over : (g : ℕ) → neg_ℤ (pos (0 / g)) ≡ pos (0 / g)
zero_over zero = refl
zero_over (suc g) = let e : 0 / suc g ≡ 0 = omega arith in ap (λ n. neg_ℤ (pos n)) e ∙ ap pos (sym e)

opposite_reduced : (z : ℤ) (d : ℕ) → reduced (neg_ℤ z) d ≡ opposite (reduced z d)
unfolding reduced
opposite_reduced (pos zero) d = ap (λ n. fraction n (d / gcd 0 d)) (sym (zero_over (gcd 0 d)))
opposite_reduced (pos (suc n)) d = refl
opposite_reduced (negsuc n) d = ap (λ y. fraction y (d / gcd (suc n) d)) (sym (neg_ℤ-neg_ℤ (pos (suc n / gcd (suc n) d))))

pub opposite_sum : (a b : Fraction) → sum (opposite a) (opposite b) ≡ opposite (sum a b)
opposite_sum a b =
    let v = a.num *ℤ pos b.den +ℤ b.num *ℤ pos a.den in
    let m = neg_mul a.num (pos b.den) in
    let n = neg_mul b.num (pos a.den) in
    let e : neg_ℤ a.num *ℤ pos b.den +ℤ neg_ℤ b.num *ℤ pos a.den ≡ neg_ℤ v = omega (arith, ints) in
    ap (λ z. reduced z (a.den * b.den)) e ∙ opposite_reduced v (a.den * b.den)

pub opposite_product : (a b : Fraction) → product (opposite a) b ≡ opposite (product a b)
opposite_product a b = ap (λ z. reduced z (a.den * b.den)) (neg_mul a.num b.num) ∙ opposite_reduced (a.num *ℤ b.num) (a.den * b.den)
