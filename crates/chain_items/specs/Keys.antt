-- The hash of a row, equal for equal rows.
use Rattle.std.specs.Prelude.{ℕ, ◌+◌, ◌*◌, ◌%◌, ◌^◌, ℤ, List, [], ◌∷◌, Bool, true, false, unsigned_abs, int_lt, pos}
use Rattle.clp_model.specs.Clauses.{Row}
use Rattle.clp_model.specs.declared.sort.Rel.{Rel}
use Rattle.clp_model.specs.declared.sort.Rel.TheVariants.{Eq, Le, Lt}

-- one more number in a hash of 64 bits
unfoldable pub mixed : ℕ → ℕ → ℕ
mixed h n = ((h + n) % 2 ^ 64 * 11400714819323198485) % 2 ^ 64

-- a number with its sign
abbrev pub sign_number : Bool → ℕ
sign_number true = 1
sign_number false = 0

abbrev pub mixed_number : ℕ → ℤ → ℕ
mixed_number h z = mixed (mixed h (unsigned_abs z)) (sign_number (int_lt z (pos 0)))

abbrev pub pairs_hash : ℕ → List (ℕ × ℤ) → ℕ
pairs_hash h [] = h
pairs_hash h (p ∷ ps) = pairs_hash (mixed_number (mixed h p.0) p.1) ps

-- a number for each relation
abbrev pub rel_number : Rel → ℕ
rel_number Eq = 0
rel_number Le = 1
rel_number Lt = 2

abbrev pub row_hash : Row → ℕ
row_hash r = mixed_number (pairs_hash (rel_number r.rel) r.pairs) r.constant
