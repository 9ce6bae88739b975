-- Coefficients of rows that are kept, and the factors by which they cancel.
use Rattle.std.proofs.Common.{◌≡◌, ◌≢◌, ℕ, zero, suc, ◌<◌, ◌≤◌, List, [], ◌∷◌, Bool, true, false, ◌&&◌, arith, refl, sym, subst}
use Rattle.std.specs.Prelude.{nat_eq, nat_le, unsigned_abs, if◌then◌else◌}
use Rattle.std.proofs.Math.IntN.{ℤ, pos, negsuc, ◌+ℤ◌}
use Rattle.std.proofs.lemmas.Int.{ints}
use Rattle.std.proofs.lemmas.Bool.Decides.{nat_tests}
use Rattle.std.proofs.lemmas.Nat.Gcd.{le_of_dvd}
use Rattle.clp_model.specs.Clauses.{Row}
use Rattle.linear_model.specs.Forms.{coefficient, is_zero, Above, IsRising}
use Rattle.linear_model.specs.Gcd.{gcd}
use Rattle.linear_model.specs.Normal.{limit, pairs_within}
use Rattle.lin_row.specs.Rows.{IsKept}
use Rattle.lin_row.proofs.Divisors.{gcd_is, gcd_positive}

both : (a b : Bool) → (a && b) ≡ true → (a ≡ true) × (b ≡ true)
both true b e = (refl, e)
both false b e = absurd (cc)

none_below : (ps : List (ℕ × ℤ)) (n v : ℕ) → v ≤ n → Above n ps → coefficient ps v ≡ pos 0
none_below [] n v h a = refl
none_below (p ∷ ps) n v h a = let e : nat_eq p.0 v ≡ false = grind (arith, nat_tests, a.0) in rw (e, none_below ps n v h a.1) refl

small_sum : (b : Bool) (z c : ℤ) → (b ≡ true → c ≡ pos 0) → unsigned_abs z ≤ limit → unsigned_abs c ≤ limit → unsigned_abs ((if b then z else pos 0) +ℤ c) ≤ limit
small_sum true z c zero_then h k = let e = zero_then refl in omega (arith, ints)
small_sum false z c zero_then h k = omega (arith, ints)

small_in : (ps : List (ℕ × ℤ)) (v : ℕ) → IsRising ps → pairs_within ps ≡ true → unsigned_abs (coefficient ps v) ≤ limit
small_in [] v h w = omega arith
small_in (p ∷ ps) v h w =
    let parts = both (nat_le (unsigned_abs p.1) limit) (pairs_within ps) w in
    let first : unsigned_abs p.1 ≤ limit = grind (arith, nat_tests, parts.0) in
    small_sum (nat_eq p.0 v) p.1 (coefficient ps v) (λ e. none_below ps p.0 v (grind (arith, nat_tests, e)) h.1) first (small_in ps v h.2 parts.1)

pub coefficient_small : (r : Row) (v : ℕ) → IsKept r → unsigned_abs (coefficient r.pairs v) ≤ limit
coefficient_small r v k = small_in r.pairs v k.normal.rising (both (pairs_within r.pairs) (nat_le (unsigned_abs r.constant) limit) k.within).0

-- ---- factors

pub magnitude_positive : (z : ℤ) → z ≢ pos 0 → 0 < unsigned_abs z
magnitude_positive (pos zero) n = absurd (n refl)
magnitude_positive (pos (suc m)) n = omega arith
magnitude_positive (negsuc m) n = omega arith

pub gcd_above : (a b g : ℕ) → g ≡ gcd a b → 0 < a → 0 < g
gcd_above a b g e h = subst (λ n. 0 < n) (sym e) (gcd_positive a b h)

pub gcd_small : (a b g : ℕ) → g ≡ gcd a b → 0 < a → g ≤ a
gcd_small a b g e h = subst (λ n. n ≤ a) (sym e) (le_of_dvd h (gcd_is a b).0)

pub not_zero : (z : ℤ) → is_zero z ≡ false → z ≢ pos 0
not_zero (pos zero) e n = absurd (cc)
not_zero (pos (suc m)) e n = absurd (cc)
not_zero (negsuc m) e n = absurd (cc)
