-- Linear forms over exact fractions, and the row that compares a form with 0.
use Rattle.std.specs.Prelude.{⊤, ℕ, ◌*◌, ◌/◌, ℤ, pos, ◌*ℤ◌, List, [], ◌∷◌, Bool, true, ◌&&◌, nat_eq, if◌then◌else◌, Result, Ok, Err}
use Rattle.clp_rationals.specs.Fraction.{Fraction, IsLowest}
use Rattle.clp_model.specs.Clauses.{Row}
use Rattle.clp_model.specs.declared.sort.Rel.{Rel}
use Rattle.linear_model.specs.Gcd.{gcd}
use Rattle.linear_model.specs.Forms.{is_zero, with_pair, combined}
use Rattle.linear_model.specs.Normal.{normal, is_within}
use Rattle.frac_model.specs.Reduced as frac
use Rattle.frac_model.specs.Results.{is_small}
use Rattle.form_model.specs.declared.fault.FormFault.{FormFault}
use Rattle.form_model.specs.declared.fault.FormFault.TheVariants.{NotLinear, ZeroDivisor, TooLarge}

-- The terms stand in the order in which their variables were first met, each variable once. A coefficient may be 0.
pub record Form : Type 0 where
  pub constant : Fraction
  pub terms : List (ℕ × Fraction)

abbrev pub form : Fraction → List (ℕ × Fraction) → Form
form c ps = record { constant = c; terms = ps }

-- the number n
abbrev pub whole : ℕ → Form
whole n = form (frac.fraction (pos n) 1) []

-- the variable v, once
abbrev pub variable : ℕ → Form
variable v = form (frac.fraction (pos 0) 1) ((v, frac.fraction (pos 1) 1) ∷ [])

-- ---- lowest terms and the range of the parts
abbrev pub AreLowest : List (ℕ × Fraction) → Type 0
AreLowest [] = ⊤
AreLowest (p ∷ ps) = IsLowest p.1 × AreLowest ps

abbrev pub IsLowestForm : Form → Type 0
IsLowestForm f = IsLowest f.constant × AreLowest f.terms

abbrev pub are_small : List (ℕ × Fraction) → Bool
are_small [] = true
are_small (p ∷ ps) = is_small p.1 && are_small ps

-- every numerator and denominator is within the limit
abbrev pub is_small_form : Form → Bool
is_small_form f = is_small f.constant && are_small f.terms

abbrev pub if_small_form : Form → Result Form FormFault
if_small_form f = if is_small_form f then Ok f else Err TooLarge

-- ---- sums and differences
-- c more of variable v; a new variable goes last
abbrev pub with_term : ℕ → Fraction → List (ℕ × Fraction) → List (ℕ × Fraction)
with_term v c [] = (v, c) ∷ []
with_term v c (p ∷ ps) = if nat_eq v p.0 then (p.0, frac.sum p.1 c) ∷ ps else p ∷ with_term v c ps

abbrev pub with_terms : List (ℕ × Fraction) → List (ℕ × Fraction) → List (ℕ × Fraction)
with_terms ps [] = ps
with_terms ps (q ∷ qs) = with_terms (with_term q.0 q.1 ps) qs

-- each coefficient by a function of it
abbrev pub each : (Fraction → Fraction) → List (ℕ × Fraction) → List (ℕ × Fraction)
each g [] = []
each g (p ∷ ps) = (p.0, g p.1) ∷ each g ps

-- each part by a function of it
abbrev pub mapped : (Fraction → Fraction) → Form → Form
mapped g f = form (g f.constant) (each g f.terms)

abbrev pub opposite : Form → Form
opposite f = mapped frac.opposite f

abbrev pub sum : Form → Form → Result Form FormFault
sum f g = if_small_form (form (frac.sum f.constant g.constant) (with_terms f.terms g.terms))

abbrev pub difference : Form → Form → Result Form FormFault
difference f g = sum f (opposite g)

-- ---- products and quotients
abbrev pub all_zero : List (ℕ × Fraction) → Bool
all_zero [] = true
all_zero (p ∷ ps) = is_zero p.1.num && all_zero ps

-- no variable counts; a form whose variables cancel is constant
abbrev pub is_constant : Form → Bool
is_constant f = all_zero f.terms

abbrev pub multiplied : Fraction → Form → Form
multiplied k f = mapped (λ c. frac.product c k) f

abbrev pub product : Form → Form → Result Form FormFault
product f g =
    if is_constant g then if_small_form (multiplied g.constant f)
    else if is_constant f then if_small_form (multiplied f.constant g)
    else Err NotLinear

abbrev pub divided : Fraction → Form → Form
divided k f = mapped (λ c. frac.quotient c k) f

abbrev pub quotient : Form → Form → Result Form FormFault
quotient f g =
    if is_constant g then (if is_zero g.constant.num then Err ZeroDivisor else if_small_form (divided g.constant f))
    else Err NotLinear

-- ---- the row of a form
abbrev pub lcm : ℕ → ℕ → ℕ
lcm a b = a / gcd a b * b

-- the least common multiple of a number and the denominators
abbrev pub joint_den : ℕ → List (ℕ × Fraction) → ℕ
joint_den n [] = n
joint_den n (p ∷ ps) = joint_den (lcm n p.1.den) ps

abbrev pub common_den : Form → ℕ
common_den f = joint_den f.constant.den f.terms

-- d times the fraction, where d is a multiple of its denominator
abbrev pub cleared : ℕ → Fraction → ℤ
cleared d f = f.num *ℤ pos (d / f.den)

abbrev pub cleared_terms : ℕ → List (ℕ × Fraction) → List (ℕ × ℤ)
cleared_terms d [] = []
cleared_terms d (p ∷ ps) = (p.0, cleared d p.1) ∷ cleared_terms d ps

-- by rising variables, without those whose coefficient is 0
abbrev pub in_order : List (ℕ × ℤ) → List (ℕ × ℤ)
in_order [] = []
in_order (p ∷ ps) = combined (pos 1) (with_pair p.0 p.1 []) (pos 1) (in_order ps)

-- the form, times the least common multiple of its denominators, related to 0
abbrev pub cleared_row : Rel → Form → Row
cleared_row rel f =
    record { rel = rel; pairs = in_order (cleared_terms (common_den f) f.terms); constant = cleared (common_den f) f.constant }

-- in normal form, if that is within the limit
abbrev pub row_of : Rel → Form → Result Row FormFault
row_of rel f = if is_within (normal (cleared_row rel f)) then Ok (normal (cleared_row rel f)) else Err TooLarge
