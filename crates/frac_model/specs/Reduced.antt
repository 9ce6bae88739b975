-- Computing with fractions: each result is in lowest terms.
use Rattle.std.specs.Prelude.{ℕ, ◌*◌, ◌/◌, ℤ, pos, negsuc, ◌+ℤ◌, ◌*ℤ◌, neg_ℤ, unsigned_abs, int_div}
use Rattle.clp_rationals.specs.Fraction.{Fraction}
use Rattle.linear_model.specs.Gcd.{gcd}

abbrev pub fraction : ℤ → ℕ → Fraction
fraction n d = record { num = n; den = d }

-- n over d, both divided by their greatest common divisor
unfoldable pub reduced : ℤ → ℕ → Fraction
reduced n d = fraction (int_div n (pos (gcd (unsigned_abs n) d))) (d / gcd (unsigned_abs n) d)

abbrev pub sum : Fraction → Fraction → Fraction
sum f g = reduced (f.num *ℤ pos g.den +ℤ g.num *ℤ pos f.den) (f.den * g.den)

abbrev pub product : Fraction → Fraction → Fraction
product f g = reduced (f.num *ℤ g.num) (f.den * g.den)

abbrev pub opposite : Fraction → Fraction
opposite f = fraction (neg_ℤ f.num) f.den

-- a whole number over another, with the sign in the numerator
abbrev pub over : ℕ → ℤ → Fraction
over n (pos d) = fraction (pos n) d
over n (negsuc d) = fraction (neg_ℤ (pos n)) (unsigned_abs (negsuc d))

abbrev pub reciprocal : Fraction → Fraction
reciprocal f = over f.den f.num

abbrev pub difference : Fraction → Fraction → Fraction
difference f g = sum f (opposite g)

abbrev pub quotient : Fraction → Fraction → Fraction
quotient f g = product f (reciprocal g)
