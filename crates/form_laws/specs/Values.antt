-- The value of a form under a valuation.
use Rattle.std.specs.Prelude.{ℕ, pos, List, [], ◌∷◌}
use Rattle.clp_rationals.specs.Fraction.{Fraction}
use Rattle.clp_model.specs.Values.{Valuation}
use Rattle.frac_model.specs.Reduced as frac
use Rattle.form_model.specs.Forms.{Form}

abbrev pub variable_value : Valuation → ℕ → Fraction
variable_value u v = frac.reduced (u.number v) u.whole

abbrev pub terms_value : Valuation → List (ℕ × Fraction) → Fraction
terms_value u [] = frac.fraction (pos 0) 1
terms_value u (p ∷ ps) = frac.sum (frac.product p.1 (variable_value u p.0)) (terms_value u ps)

abbrev pub value : Valuation → Form → Fraction
value u f = frac.sum f.constant (terms_value u f.terms)
