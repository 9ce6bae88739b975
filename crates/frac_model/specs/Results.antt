-- What a computation with fractions within the limit answers.
use Rattle.std.specs.Prelude.{Bool, ◌&&◌, unsigned_abs, nat_le, if◌then◌else◌, Result, Ok, Err}
use Rattle.clp_rationals.specs.Fraction.{Fraction}
use Rattle.linear_model.specs.Forms.{is_zero}
use Rattle.linear_model.specs.Normal.{limit}
use Rattle.frac_model.specs.Reduced.{quotient}
use Rattle.frac_model.specs.declared.fault.FracFault.{FracFault}
use Rattle.frac_model.specs.declared.fault.FracFault.TheVariants.{TooLarge, ZeroDivisor}

-- both parts are within the limit
abbrev pub is_small : Fraction → Bool
is_small f = nat_le (unsigned_abs f.num) limit && nat_le f.den limit

abbrev pub if_small : Fraction → Result Fraction FracFault
if_small f = if is_small f then Ok f else Err TooLarge

-- the quotient, if there is one
abbrev pub quotient_or_fault : Fraction → Fraction → Result Fraction FracFault
quotient_or_fault f g = if is_zero g.num then Err ZeroDivisor else if_small (quotient f g)
