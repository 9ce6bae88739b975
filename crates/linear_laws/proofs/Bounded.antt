-- Lower and upper bounds of a variable, and the combinations that have lost it.
use Rattle.std.proofs.Common.{◌≡◌, ℕ, zero, suc, ◌<◌, Bool, true, false, not, arith, refl, ◌∙◌, ap}
use Rattle.std.specs.Prelude.{unsigned_abs, int_lt}
use Rattle.std.proofs.Math.IntN.{ℤ, pos, negsuc, neg_ℤ, ◌*ℤ◌}
use Rattle.std.specs.Int.Signed.{◌<ℤ◌}
use Rattle.std.proofs.lemmas.Int.{ints}
use Rattle.clp_model.specs.Clauses.{Row}
use Rattle.linear_model.specs.Forms.{is_zero, coefficient, combined}
use Rattle.linear_model.specs.Elimination.{has, factors, opposed}
use Rattle.linear_laws.proofs.Sums.{coefficient_combined, zero_is}
use Rattle.linear_laws.proofs.Factors.{factors_cross, substituted_cancel, opposite_cancel}
use Rattle.linear_laws.proofs.Common.{size}

abbrev pub IsLower : ℕ → Row → Type 0
IsLower x r = coefficient r.pairs x <ℤ pos 0

abbrev pub IsUpper : ℕ → Row → Type 0
IsUpper x r = pos 0 <ℤ coefficient r.pairs x

pub lower_is : (x : ℕ) (r : Row) → IsLower x r → coefficient r.pairs x ≡ neg_ℤ (pos (size x r))
lower_is x r = by (coefficient r.pairs x)
  where
    by : (c : ℤ) → c <ℤ pos 0 → c ≡ neg_ℤ (pos (unsigned_abs c))
    by (pos n) h = absurd (omega (arith, ints))
    by (negsuc n) h = refl

pub upper_is : (x : ℕ) (r : Row) → IsUpper x r → coefficient r.pairs x ≡ pos (size x r)
upper_is x r = by (coefficient r.pairs x)
  where
    by : (c : ℤ) → pos 0 <ℤ c → c ≡ pos (unsigned_abs c)
    by (pos n) h = refl
    by (negsuc n) h = absurd (omega (arith, ints))

pub lower_size : (x : ℕ) (r : Row) → IsLower x r → 0 < size x r
lower_size x r h = let e = lower_is x r h in omega (arith, ints)

pub upper_size : (x : ℕ) (r : Row) → IsUpper x r → 0 < size x r
upper_size x r h = let e = upper_is x r h in omega (arith, ints)

-- a pair's row has no x
pub bounded_free : (x : ℕ) (l r : Row) → IsLower x l → IsUpper x r
    → let f = factors (coefficient l.pairs x) (coefficient r.pairs x) in coefficient (combined (pos f.0) l.pairs (pos f.1) r.pairs) x ≡ pos 0
bounded_free x l r hl hr =
    let c = coefficient l.pairs x in
    let d = coefficient r.pairs x in
    let f = factors c d in
    let m = size x l in
    let n = size x r in
    let e = opposite_cancel f.1 f.0 m n (factors_cross c d) in
    let a = ap (λ z. pos f.0 *ℤ z) (lower_is x l hl) in
    let b = ap (λ z. pos f.1 *ℤ z) (upper_is x r hr) in
    coefficient_combined x (pos f.0) l.pairs (pos f.1) r.pairs ∙ omega (arith, ints)

-- nor has a row after the substitution
pub substituted_free : (x : ℕ) (e r : Row)
    → let f = factors (coefficient e.pairs x) (coefficient r.pairs x) in
    coefficient (combined (pos f.1) r.pairs (opposed (coefficient e.pairs x) (coefficient r.pairs x) f.0) e.pairs) x ≡ pos 0
substituted_free x e r =
    let c = coefficient e.pairs x in
    let d = coefficient r.pairs x in
    let f = factors c d in
    coefficient_combined x (pos f.1) r.pairs (opposed c d f.0) e.pairs ∙ substituted_cancel c d

-- ---- the tests
pub less_true : (a b : ℤ) → int_lt a b ≡ true → a <ℤ b
less_true a b h = grind (arith, ints)

pub true_less : (a b : ℤ) → a <ℤ b → int_lt a b ≡ true
true_less a b h = grind (arith, ints)

pub not_back : (b : Bool) → not b ≡ true → b ≡ false
not_back true e = cc
not_back false e = refl

pub not_yes : (b : Bool) → b ≡ false → not b ≡ true
not_yes b e = cc

pub not_zero : (c : ℤ) → not (is_zero c) ≡ true → 0 < unsigned_abs c
not_zero (pos n) e = by n e
  where
    by : (n : ℕ) → not (is_zero (pos n)) ≡ true → 0 < n
    by zero e = cc
    by (suc n) e = omega arith
not_zero (negsuc n) e = omega arith

pub zero_has : (c : ℤ) → not (is_zero c) ≡ false → c ≡ pos 0
zero_has c e = by (is_zero c) refl e
  where
    by : (b : Bool) → is_zero c ≡ b → not b ≡ false → c ≡ pos 0
    by true i h = zero_is c i
    by false i h = cc

pub zero_has_not : (x : ℕ) (r : Row) → coefficient r.pairs x ≡ pos 0 → has x r ≡ false
zero_has_not x r e = ap (λ c. not (is_zero c)) e

pub negative_has : (c : ℤ) → c <ℤ pos 0 → not (is_zero c) ≡ true
negative_has (pos n) h = absurd (omega (arith, ints))
negative_has (negsuc n) h = refl

pub positive_has : (c : ℤ) → pos 0 <ℤ c → not (is_zero c) ≡ true
positive_has c h = by (is_zero c) refl
  where
    by : (b : Bool) → is_zero c ≡ b → not b ≡ true
    by true e = let z = zero_is c e in absurd (omega (arith, ints))
    by false e = refl
