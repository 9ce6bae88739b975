-- The laws of forms.
use Rattle.std.specs.Prelude.{◌≡◌, ◌↔◌, ℕ, pos, true, Ok}
use Rattle.clp_model.specs.Values.{Valuation}
use Rattle.clp_model.specs.Clauses.{Row, RowHolds, Compares}
use Rattle.clp_model.specs.declared.sort.Rel.{Rel}
use Rattle.frac_model.specs.Reduced as frac
use Rattle.form_model.specs.Forms.{Form, IsLowestForm, whole, variable, sum, difference, product, quotient, is_constant, row_of}
use Rattle.form_laws.specs.Values.{variable_value, value}

-- numbers and variables have their own values
abbrev pub WholeIsExact : Type 0
WholeIsExact = (u : Valuation) (n : ℕ) → value u (whole n) ≡ frac.fraction (pos n) 1

abbrev pub VariableIsExact : Type 0
VariableIsExact = (u : Valuation) (v : ℕ) → value u (variable v) ≡ variable_value u v

-- a form in which no variable counts has the value of its constant
abbrev pub ConstantIsExact : Type 0
ConstantIsExact = (u : Valuation) (f : Form) → IsLowestForm f → is_constant f ≡ true → value u f ≡ f.constant

-- each result has the value of the result on the values, and is in lowest terms again
abbrev pub SumIsExact : Type 0
SumIsExact = (u : Valuation) (f g h : Form) → IsLowestForm f → IsLowestForm g → sum f g ≡ Ok h → (value u h ≡ frac.sum (value u f) (value u g)) × IsLowestForm h

abbrev pub DifferenceIsExact : Type 0
DifferenceIsExact = (u : Valuation) (f g h : Form) → IsLowestForm f → IsLowestForm g → difference f g ≡ Ok h → (value u h ≡ frac.difference (value u f) (value u g)) × IsLowestForm h

abbrev pub ProductIsExact : Type 0
ProductIsExact = (u : Valuation) (f g h : Form) → IsLowestForm f → IsLowestForm g → product f g ≡ Ok h → (value u h ≡ frac.product (value u f) (value u g)) × IsLowestForm h

abbrev pub QuotientIsExact : Type 0
QuotientIsExact = (u : Valuation) (f g h : Form) → IsLowestForm f → IsLowestForm g → quotient f g ≡ Ok h → (value u h ≡ frac.quotient (value u f) (value u g)) × IsLowestForm h

-- the row holds exactly where the value of the form compares so with 0; the sign of a fraction is that of its numerator
abbrev pub RowIsExact : Type 0
RowIsExact = (u : Valuation) (rel : Rel) (f : Form) (r : Row) → IsLowestForm f → row_of rel f ≡ Ok r → RowHolds u r ↔ Compares rel (value u f).num
