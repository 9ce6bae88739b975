-- Worked examples of linear forms, normal forms and changes of a row.
use Rattle.std.specs.Prelude.{◌≡◌, ℕ, ℤ, pos, neg_ℤ, List, [], ◌∷◌, nat_le, if◌then◌else◌}
use Rattle.clp_model.specs.Clauses.{Row}
use Rattle.clp_model.specs.declared.sort.Rel.{Rel}
use Rattle.clp_model.specs.declared.sort.Rel.TheVariants.{Eq, Le, Lt}
use Rattle.linear_model.specs.Gcd.{gcd}
use Rattle.linear_model.specs.Forms.{combined}
use Rattle.linear_model.specs.Normal.{normal}
use Rattle.linear_model.specs.Changes.{renamed, negated, flipped}

-- the row of these pairs and this constant
abbrev pub row : Rel → List (ℕ × ℤ) → ℤ → Row
row rel pairs constant = record { rel = rel; pairs = pairs; constant = constant }

-- 6 divides 12 and 18, and no greater number does; 0 has every divisor
abbrev pub GcdOfTwelveAndEighteen : Type 0
GcdOfTwelveAndEighteen = (gcd 12 18 ≡ 6) × (gcd 0 5 ≡ 5) × (gcd 7 0 ≡ 7) × (gcd 0 0 ≡ 0)

-- 2 times `V1 + 3*V3` and -3 times `2*V2 + 2*V3` is `2*V1 - 6*V2`
abbrev pub CombinedForms : Type 0
CombinedForms =
    combined (pos 2) ((1, pos 1) ∷ (3, pos 3) ∷ []) (neg_ℤ (pos 3)) ((2, pos 2) ∷ (3, pos 2) ∷ [])
    ≡ (1, pos 2) ∷ (2, neg_ℤ (pos 6)) ∷ []

-- `-4*V1 + 6*V2 - 2 = 0` is `2*V1 - 3*V2 + 1 = 0`
abbrev pub NormalEquation : Type 0
NormalEquation =
    normal (row Eq ((1, neg_ℤ (pos 4)) ∷ (2, pos 6) ∷ []) (neg_ℤ (pos 2)))
    ≡ row Eq ((1, pos 2) ∷ (2, neg_ℤ (pos 3)) ∷ []) (pos 1)

-- `-4*V1 + 6 =< 0` is `-2*V1 + 3 =< 0`: an inequality is not turned round
abbrev pub NormalInequality : Type 0
NormalInequality =
    normal (row Le ((1, neg_ℤ (pos 4)) ∷ []) (pos 6)) ≡ row Le ((1, neg_ℤ (pos 2)) ∷ []) (pos 3)

-- `6 < 0` is `1 < 0`, and `0 = 0` stays
abbrev pub NormalConstants : Type 0
NormalConstants = (normal (row Lt [] (pos 6)) ≡ row Lt [] (pos 1)) × (normal (row Eq [] (pos 0)) ≡ row Eq [] (pos 0))

-- V1 and V2 become V5, and any other becomes V1
abbrev pub one_for_two : ℕ → ℕ
one_for_two v = if nat_le v 2 then 5 else 1

-- `2*V1 - 2*V2 + 3*V3 < 0` becomes `3*V1 < 0`, and `V1 + V2 + V3 < 0` becomes `V1 + 2*V5 < 0`
abbrev pub RenamedRows : Type 0
RenamedRows =
    (renamed one_for_two (row Lt ((1, pos 2) ∷ (2, neg_ℤ (pos 2)) ∷ (3, pos 3) ∷ []) (pos 0)) ≡ row Lt ((1, pos 3) ∷ []) (pos 0))
    × (renamed one_for_two (row Lt ((1, pos 1) ∷ (2, pos 1) ∷ (3, pos 1) ∷ []) (pos 0)) ≡ row Lt ((1, pos 1) ∷ (5, pos 2) ∷ []) (pos 0))

-- the negation of `V1 - 1 =< 0` is `-V1 + 1 < 0`, and that of `V1 < 0` is `-V1 =< 0`
abbrev pub NegatedRows : Type 0
NegatedRows =
    (negated (row Le ((1, pos 1) ∷ []) (neg_ℤ (pos 1))) ≡ row Lt ((1, neg_ℤ (pos 1)) ∷ []) (pos 1))
    × (negated (row Lt ((1, pos 1) ∷ []) (pos 0)) ≡ row Le ((1, neg_ℤ (pos 1)) ∷ []) (pos 0))

-- `V1 - 1 = 0` with the opposite sum is `-V1 + 1 = 0`
abbrev pub FlippedRow : Type 0
FlippedRow = flipped (row Eq ((1, pos 1) ∷ []) (neg_ℤ (pos 1))) ≡ row Eq ((1, neg_ℤ (pos 1)) ∷ []) (pos 1)
