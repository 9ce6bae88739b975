-- The normal form of a row, and the range of its numbers.
use Rattle.std.specs.Prelude.{◌≡◌, ℕ, ◌^◌, ◌-◌, max, ℤ, pos, neg_ℤ, List, [], ◌∷◌, Bool, true, false, ◌&&◌, unsigned_abs, nat_eq, nat_le, int_lt, int_le, int_div}
use Rattle.std.specs.Ordering.{int_eq}
use Rattle.clp_model.specs.Clauses.{Row}
use Rattle.clp_model.specs.declared.sort.Rel.{Rel}
use Rattle.clp_model.specs.declared.sort.Rel.TheVariants.{Eq, Le, Lt}
use Rattle.linear_model.specs.Gcd.{gcd}
use Rattle.linear_model.specs.Forms.{IsRising}

-- of a number and the coefficients
abbrev pub joint_gcd : ℕ → List (ℕ × ℤ) → ℕ
joint_gcd n [] = n
joint_gcd n (p ∷ ps) = joint_gcd (gcd (unsigned_abs p.1) n) ps

-- of the constant and the coefficients
abbrev pub row_gcd : Row → ℕ
row_gcd r = joint_gcd (unsigned_abs r.constant) r.pairs

abbrev pub divided_pairs : ℤ → List (ℕ × ℤ) → List (ℕ × ℤ)
divided_pairs d [] = []
divided_pairs d (p ∷ ps) = (p.0, int_div p.1 d) ∷ divided_pairs d ps

abbrev pub divided : ℤ → Row → Row
divided d r = record { rel = r.rel; pairs = divided_pairs d r.pairs; constant = int_div r.constant d }

abbrev pub first_is_negative : List (ℕ × ℤ) → Bool
first_is_negative [] = false
first_is_negative (p ∷ ps) = int_lt p.1 (pos 0)

abbrev pub divisor_of : Bool → ℕ → ℤ
divisor_of true g = neg_ℤ (pos g)
divisor_of false g = pos g

-- an equation whose first coefficient is below 0
abbrev pub is_flipped : Rel → List (ℕ × ℤ) → Bool
is_flipped Eq ps = first_is_negative ps
is_flipped Le ps = false
is_flipped Lt ps = false

-- coefficients and constant without common divisor, and the first coefficient of an equation positive; a row that is all zero stays
abbrev pub normal : Row → Row
normal r = divided (divisor_of (is_flipped r.rel r.pairs) (max 1 (row_gcd r))) r

-- a row as `lin_row` keeps it
pub record IsNormal (r : Row) : Type 0 where
  pub rising : IsRising r.pairs
  pub stays : normal r ≡ r

-- the greatest magnitude of a coefficient and of a constant
abbrev pub limit : ℕ
limit = 2 ^ 63 - 1

abbrev pub pairs_within : List (ℕ × ℤ) → Bool
pairs_within [] = true
pairs_within (p ∷ ps) = nat_le (unsigned_abs p.1) limit && pairs_within ps

abbrev pub is_within : Row → Bool
is_within r = pairs_within r.pairs && nat_le (unsigned_abs r.constant) limit

-- ---- constant rows and equal rows
abbrev pub is_constant : List (ℕ × ℤ) → Bool
is_constant [] = true
is_constant (p ∷ ps) = false

abbrev pub compares : Rel → ℤ → Bool
compares Eq z = int_eq z (pos 0)
compares Le z = int_le z (pos 0)
compares Lt z = int_lt z (pos 0)

-- a row without variables that is true
abbrev pub is_always : Row → Bool
is_always r = is_constant r.pairs && compares r.rel r.constant

abbrev pub rel_eq : Rel → Rel → Bool
rel_eq Eq Eq = true
rel_eq Le Le = true
rel_eq Lt Lt = true
rel_eq a b = false

abbrev pub pairs_eq : List (ℕ × ℤ) → List (ℕ × ℤ) → Bool
pairs_eq [] [] = true
pairs_eq [] (q ∷ qs) = false
pairs_eq (p ∷ ps) [] = false
pairs_eq (p ∷ ps) (q ∷ qs) = nat_eq p.0 q.0 && int_eq p.1 q.1 && pairs_eq ps qs

abbrev pub row_eq : Row → Row → Bool
row_eq r s = rel_eq r.rel s.rel && pairs_eq r.pairs s.pairs && int_eq r.constant s.constant
