-- The text of a row.
use Rattle.std.specs.Prelude.{ℕ, ℤ, ◌==◌, List, [], ◌∷◌, ◌++◌, codes, if◌then◌else◌, unsigned_abs}
use Rattle.std.specs.Int.{is_negative}
use Rattle.std.specs.Fmt.{decimal, signed_decimal}
use Rattle.clp_model.specs.declared.sort.Rel.{Rel}
use Rattle.clp_model.specs.declared.sort.Rel.TheVariants.{Eq, Le, Lt}
use Rattle.clp_model.specs.Clauses.{Row}
use Rattle.print_model.specs.Terms.{variable_text}

-- a variable after the magnitude of its coefficient, which is left out where it is 1
abbrev pub product_text : ℕ → ℕ → List ℕ
product_text magnitude n = if magnitude == 1 then variable_text n else decimal magnitude ++ (codes "*" ++ variable_text n)

-- how what is added to a sum is joined to it
abbrev pub joint : ℤ → List ℕ
joint z = if is_negative z then codes " - " else codes " + "

abbrev pub first_term : ℕ × ℤ → List ℕ
first_term p = (if is_negative p.1 then codes "-" else []) ++ product_text (unsigned_abs p.1) p.0

abbrev pub later_term : ℕ × ℤ → List ℕ
later_term p = joint p.1 ++ product_text (unsigned_abs p.1) p.0

abbrev pub later_terms : List (ℕ × ℤ) → List ℕ
later_terms [] = []
later_terms (p ∷ ps) = later_term p ++ later_terms ps

-- a constant after terms, which is left out where it is 0
abbrev pub later_constant : ℤ → List ℕ
later_constant z = if unsigned_abs z == 0 then [] else joint z ++ decimal (unsigned_abs z)

-- the terms in order and then the constant
abbrev pub sum_text : List (ℕ × ℤ) → ℤ → List ℕ
sum_text [] constant = signed_decimal constant
sum_text (p ∷ ps) constant = first_term p ++ (later_terms ps ++ later_constant constant)

abbrev pub relation_text : Rel → List ℕ
relation_text Eq = codes " = 0"
relation_text Le = codes " =< 0"
relation_text Lt = codes " < 0"

-- the sum compared with 0
unfoldable pub row_text : Row → List ℕ
row_text row = sum_text row.pairs row.constant ++ relation_text row.rel
