-- The least common multiple of the denominators as the code computes it.
use Rattle.std.proofs.Common.{◌≡◌, ℕ, zero, suc, ◌+◌, ◌<◌, List, [], ◌∷◌, drop, slice_get, Some, arith, sym, ◌∙◌, ap, subst}
use Rattle.clp_rationals.specs.Fraction.{Fraction}
use Rattle.form_model.specs.Forms.{AreLowest, lcm, joint_den}
use Rattle.form_laws.proofs.Multiples.{lcm_positive, joint_grows}
use Rattle.linear_form.proofs.Changes.{front}

abbrev Terms : Type 0
Terms = List (ℕ × Fraction)

lowest_from : (i : ℕ) (ps : Terms) → AreLowest ps → AreLowest (drop i ps)
lowest_from zero ps a = a
lowest_from (suc i) [] a = a
lowest_from (suc i) (p ∷ ps) a = lowest_from i ps a.1

-- ---- one by one, where d is the denominator of the i-th
module _ (n i d all : ℕ) (ps : Terms) (t : ℕ × Fraction) (at : slice_get ps i ≡ Some t) (is : d ≡ t.1.den) (so_far : joint_den n (drop i ps) ≡ all) where
  pub joint_goes_on : joint_den (lcm n d) (drop (i + 1) ps) ≡ all
  joint_goes_on = ap (λ k. joint_den (lcm n k) (drop (i + 1) ps)) is ∙ (sym (ap (joint_den n) (front ps i t at)) ∙ so_far)

  pub joint_is_past : (b : ℕ) → 0 < n → 0 < d → AreLowest ps → b < lcm n d → b < all
  joint_is_past b h hd low k =
      let rest = subst AreLowest (front ps i t at) (lowest_from i ps low) in
      let g = joint_grows (lcm n d) (drop (i + 1) ps) (lcm_positive n d h hd) rest.1 in
      let e = joint_goes_on in omega arith
