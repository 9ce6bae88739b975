-- Examples of lowest terms and of rows.
use Rattle.std.specs.Prelude.{◌≡◌, ℕ, ◌<◌, ℤ, pos, negsuc, [], ◌∷◌}
use Rattle.clp_rationals.proofs.Lowest.{lowest_over}
use Rattle.clp_model.specs.declared.sort.Rel.{Rel}
use Rattle.clp_model.specs.declared.sort.Rel.TheVariants.{Eq, Le, Lt}
use Rattle.clp_model.specs.Values.{Valuation, number_over}
use Rattle.clp_model.specs.Clauses.{Row, RowHolds}

-- 6 over 4 is 3/2
abbrev pub SixQuarters : Type 0
SixQuarters = (h : 0 < 4) → (lowest_over (pos 6) 4 h).0 ≡ record { num = pos 3; den = 2 }

-- -6 over 4 is -3/2
abbrev pub MinusSixQuarters : Type 0
MinusSixQuarters = (h : 0 < 4) → (lowest_over (negsuc 5) 4 h).0 ≡ record { num = negsuc 2; den = 2 }

-- 2 over 4 and 1 over 2 are the same value
abbrev pub TwoQuarters : Type 0
TwoQuarters = (h : 0 < 4) (k : 0 < 2) → number_over (pos 2) 4 h ≡ number_over (pos 1) 2 k

-- V1 is n over d, and V2 is m over d
pub record Gives (u : Valuation) (n m : ℤ) (d : ℕ) : Type 0 where
  pub first : u.number 1 ≡ n
  pub second : u.number 2 ≡ m
  pub whole : u.whole ≡ d

-- 2*V1 - V2 + 1, compared with 0
abbrev pub row : Rel → Row
row rel = record { rel = rel; pairs = (1, pos 2) ∷ (2, negsuc 0) ∷ []; constant = pos 1 }

-- where V1 is 1 and V2 is 3, the sum is 0
abbrev pub RowAtWholeNumbers : Type 0
RowAtWholeNumbers = (u : Valuation) → Gives u (pos 1) (pos 3) 1 → RowHolds u (row Eq) × RowHolds u (row Le)

-- and so it is where V1 is 1/2 and V2 is 2
abbrev pub RowAtHalves : Type 0
RowAtHalves = (u : Valuation) → Gives u (pos 1) (pos 4) 2 → RowHolds u (row Eq) × RowHolds u (row Le)

-- 0 is not less than 0
abbrev pub StrictRow : Type 0
StrictRow = (u : Valuation) → Gives u (pos 1) (pos 3) 1 → RowHolds u (row Lt) → ⊥

-- where V1 is 1/2 and V2 is 5/2, the sum is -1/2, which is less than 0 and not equal to it
abbrev pub RowBelow : Type 0
RowBelow = (u : Valuation) → Gives u (pos 1) (pos 5) 2 → RowHolds u (row Lt) × (RowHolds u (row Eq) → ⊥)
