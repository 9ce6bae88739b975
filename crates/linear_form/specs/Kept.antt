-- What is true of each form that the code keeps.
use Rattle.std.specs.Prelude.{◌≡◌, true}
use Rattle.clp_rationals.specs.Fraction.{IsLowest}
use Rattle.form_model.specs.Forms.{Form, AreLowest, is_small_form}

-- each part is in lowest terms and within the limit
pub record IsKept (f : Form) : Type 0 where
  pub small : is_small_form f ≡ true
  pub constant : IsLowest f.constant
  pub terms : AreLowest f.terms
