-- Euclid's steps give the greatest common divisor.
use Rattle.std.proofs.Common.{◌≡◌, ℕ, zero, suc, ◌*◌, ◌<◌, ◌≤◌, ◌%◌, ◌/◌, arith, refl, subst}
use Rattle.std.proofs.Math.Nat.{eq-zero_of_zero-dvd}
use Rattle.std.specs.Int.{IsGcd, ◌∣◌}
use Rattle.std.proofs.lemmas.Nat.Gcd.{IsGcd-from_zero, IsGcd-from_mod, same_from_IsGcd, mod-eq-zero_of_dvd}
use Rattle.std.proofs.lemmas.Nat.{div-add-mod'}
use Rattle.linear_model.specs.Gcd.{gcd, gcd_within}

within : (n a b : ℕ) → b ≤ n → IsGcd a b (gcd_within n a b)
within zero a b h = IsGcd-from_zero a b (omega arith)
within (suc n) a zero h = IsGcd-from_zero a zero refl
within (suc n) a (suc b) h = IsGcd-from_mod a (suc b) (gcd_within n (suc b) (a % suc b)) (within n (suc b) (a % suc b) (omega arith))

pub gcd_is : (a b : ℕ) → IsGcd a b (gcd a b)
unfolding gcd
gcd_is a b = within b a b (omega arith)

pub divided_back : (g n : ℕ) → g ∣ n → n / g * g ≡ n
divided_back g n d = let e = mod-eq-zero_of_dvd g d in omega (arith, div-add-mod' n g)

pub gcd_positive : (a b : ℕ) → 0 < a → 0 < gcd a b
gcd_positive a b h = by (gcd a b) refl
  where
    by : (g : ℕ) → gcd a b ≡ g → 0 < gcd a b
    by zero e = let d = subst (λ g. g ∣ a) e (gcd_is a b).0 in absurd (let z = eq-zero_of_zero-dvd d in omega arith)
    by (suc n) e = omega arith

-- one of Euclid's steps
pub gcd_step : (a b : ℕ) → gcd a b ≡ gcd b (a % b)
gcd_step a b = same_from_IsGcd a b (gcd a b) (gcd b (a % b)) (gcd_is a b) (IsGcd-from_mod a b (gcd b (a % b)) (gcd_is b (a % b)))

pub gcd_zero : (a : ℕ) → gcd a 0 ≡ a
unfolding gcd
gcd_zero a = refl

pub gcd_positive_last : (a b : ℕ) → 0 < b → 0 < gcd a b
gcd_positive_last a b h = by (gcd a b) refl
  where
    by : (g : ℕ) → gcd a b ≡ g → 0 < gcd a b
    by zero e = let d = subst (λ g. g ∣ b) e (gcd_is a b).1 in absurd (let z = eq-zero_of_zero-dvd d in omega arith)
    by (suc n) e = omega arith
