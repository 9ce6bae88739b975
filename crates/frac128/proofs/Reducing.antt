-- The fraction in lowest terms as the code computes it, and whether it is within the limit.
use Rattle.std.proofs.Common.{◌≡◌, ℕ, ◌<◌, ◌≤◌, ◌/◌, Bool, true, false, ◌&&◌, arith, refl, sym, ◌∙◌, ap, subst, to_z, of_z}
use Rattle.std.specs.Prelude.{unsigned_abs, int_div, nat_le, Result, Ok, Err}
use Rattle.std.proofs.Math.IntN.{ℤ, pos}
use Rattle.std.proofs.lemmas.Int.{to_z-of_z, fits_signed_from_abs}
use Rattle.std.proofs.lemmas.Bool.Decides.{nat_tests}
use mir.Syntax.{w64}
use Rattle.clp_rationals.specs.Fraction.{Fraction, IsLowest}
use Rattle.linear_model.specs.Gcd.{gcd}
use Rattle.linear_model.specs.Normal.{limit}
use Rattle.frac_model.specs.Reduced.{fraction, reduced}
use Rattle.frac_model.specs.Results.{is_small, if_small}
use Rattle.frac_model.specs.declared.fault.FracFault.{FracFault}
use Rattle.frac_model.specs.declared.fault.FracFault.TheVariants.{TooLarge}
use Rattle.frac_laws.proofs.Gcd.{gcd_positive_last}
use Rattle.frac_laws.proofs.Reducing.{lowest}

pub divisor_above : (d m g : ℕ) → 0 < d → g ≡ gcd m d → 0 < g
divisor_above d m g h f = subst (λ k. 0 < k) (sym f) (gcd_positive_last m d h)

pub same_64 : (z : ℤ) → unsigned_abs z ≤ limit → to_z w64 (of_z w64 z) ≡ z
same_64 z h = to_z-of_z w64 z (fits_signed_from_abs w64 z (omega arith))

within_test : (n : ℕ) → n ≤ limit → nat_le n limit ≡ true
within_test n h = grind (arith, nat_tests)

past_test : (n : ℕ) → limit < n → nat_le n limit ≡ false
past_test n h = grind (arith, nat_tests)

and_false : (b : Bool) → (b && false) ≡ false
and_false true = refl
and_false false = refl

pub small : (n : ℤ) (e : ℕ) → unsigned_abs n ≤ limit → e ≤ limit → is_small (fraction n e) ≡ true
small n e h k = let a = within_test (unsigned_abs n) h in let b = within_test e k in rw (a, b) refl

den_test : (a : Bool) (n : ℕ) → (a && nat_le n limit) ≡ true → n ≤ limit
den_test true n h = grind (arith, nat_tests)
den_test false n h = cc

pub den_small : (f : Fraction) → is_small f ≡ true → f.den ≤ limit
den_small f h = den_test (nat_le (unsigned_abs f.num) limit) f.den h

num_test : (n : ℕ) (b : Bool) → (nat_le n limit && b) ≡ true → n ≤ limit
num_test n b h = by (nat_le n limit) refl h
  where
    by : (t : Bool) → nat_le n limit ≡ t → (t && b) ≡ true → n ≤ limit
    by true e h = grind (arith, nat_tests)
    by false e h = cc

pub num_small : (f : Fraction) → is_small f ≡ true → unsigned_abs f.num ≤ limit
num_small f h = num_test (unsigned_abs f.num) (nat_le f.den limit) h

pub large_num : (n : ℤ) (e : ℕ) → limit < unsigned_abs n → is_small (fraction n e) ≡ false
large_num n e h = let a = past_test (unsigned_abs n) h in rw a refl

pub large_den : (n : ℤ) (e : ℕ) → limit < e → is_small (fraction n e) ≡ false
large_den n e h = let a = past_test e h in rw a (and_false (nat_le (unsigned_abs n) limit))

pub is_ok : (f : Fraction) → is_small f ≡ true → Ok f ≡ if_small f
is_ok f e = rw e refl

abbrev refused : Result Fraction FracFault
refused = Err TooLarge

pub is_too_large : (f : Fraction) → is_small f ≡ false → refused ≡ if_small f
is_too_large f e = rw e refl

-- v' is v, m its magnitude, g the divisor and n the quotient, all as they are computed
module _ (v v' n : ℤ) (d m g : ℕ) (h : 0 < d) (hv : v' ≡ v) (hm : m ≡ unsigned_abs v') (hg : g ≡ gcd m d) (hn : n ≡ int_div v' (pos g)) where
  pub computed : fraction n (d / g) ≡ reduced v d
  unfolding reduced
  computed =
      let a : g ≡ gcd (unsigned_abs v) d = hg ∙ ap (λ x. gcd x d) (hm ∙ ap unsigned_abs hv) in
      let b : n ≡ int_div v (pos (gcd (unsigned_abs v) d)) = hn ∙ (ap (λ x. int_div x (pos g)) hv ∙ ap (λ x. int_div v (pos x)) a) in
      ap (λ x. fraction n (d / x)) a ∙ ap (λ x. fraction x (d / gcd (unsigned_abs v) d)) b

  pub den_past : limit < (d / g) → refused ≡ if_small (reduced v d)
  den_past k = is_too_large (fraction n (d / g)) (large_den n (d / g) k) ∙ ap if_small computed

  pub num_past : limit < unsigned_abs n → refused ≡ if_small (reduced v d)
  num_past k = is_too_large (fraction n (d / g)) (large_num n (d / g) k) ∙ ap if_small computed

  -- the fraction as it is stored
  module _ (kn : unsigned_abs n ≤ limit) (kd : (d / g) ≤ limit) where
    abbrev stored : Fraction
    stored = fraction (to_z w64 (of_z w64 n)) (d / g)

    same : fraction n (d / g) ≡ stored
    same = ap (λ z. fraction z (d / g)) (sym (same_64 n kn))

    pub stored_small : is_small stored ≡ true
    stored_small = subst (λ f. is_small f ≡ true) same (small n (d / g) kn kd)

    pub stored_lowest : IsLowest stored
    stored_lowest = subst IsLowest (sym computed ∙ same) (lowest v d h).0

    pub stored_ok : Ok stored ≡ if_small (reduced v d)
    stored_ok = is_ok stored stored_small ∙ ap if_small (sym same ∙ computed)
