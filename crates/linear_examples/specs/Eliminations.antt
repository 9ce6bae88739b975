-- Worked examples of the elimination of V1.
use Rattle.std.specs.Prelude.{◌≡◌, pos, neg_ℤ, [], ◌∷◌}
use Rattle.clp_model.specs.declared.sort.Rel.TheVariants.{Eq, Le, Lt}
use Rattle.linear_model.specs.Elimination.{factors, elimination}
use Rattle.linear_examples.specs.Rows.{row}

-- 3 times 4 and 2 times 6 are equal, and no less factors make them so
abbrev pub FactorsOfFourAndSix : Type 0
FactorsOfFourAndSix = factors (pos 4) (neg_ℤ (pos 6)) ≡ (3, 2)

-- from `2*V1 + V2 - 4 = 0` and `3*V1 - V2 =< 0` comes `-5*V2 + 12 =< 0`
abbrev pub ByAnEquation : Type 0
ByAnEquation =
    elimination 1 (row Eq ((1, pos 2) ∷ (2, pos 1) ∷ []) (neg_ℤ (pos 4)) ∷ row Le ((1, pos 3) ∷ (2, neg_ℤ (pos 1)) ∷ []) (pos 0) ∷ [])
    ≡ row Le ((2, neg_ℤ (pos 5)) ∷ []) (pos 12) ∷ []

-- from `V1 - V2 =< 0`, `-V1 + 3 < 0` and `V2 - 5 =< 0` come `V2 - 5 =< 0` and the strict `-V2 + 3 < 0`
abbrev pub ByBounds : Type 0
ByBounds =
    elimination 1
    (row Le ((1, pos 1) ∷ (2, neg_ℤ (pos 1)) ∷ []) (pos 0) ∷ row Lt ((1, neg_ℤ (pos 1)) ∷ []) (pos 3) ∷ row Le ((2, pos 1) ∷ []) (neg_ℤ (pos 5)) ∷ [])
    ≡ row Le ((2, pos 1) ∷ []) (neg_ℤ (pos 5)) ∷ row Lt ((2, neg_ℤ (pos 1)) ∷ []) (pos 3) ∷ []

-- with upper bounds alone nothing is left of them
abbrev pub ByUpperBoundsAlone : Type 0
ByUpperBoundsAlone =
    elimination 1 (row Le ((1, pos 1) ∷ (2, neg_ℤ (pos 1)) ∷ []) (pos 0) ∷ row Lt ((1, pos 2) ∷ []) (pos 3) ∷ []) ≡ []

-- `V2 =< 0` and `2*V2 =< 0` are one row, `-1 =< 0` is left out, and `1 =< 0` stays
abbrev pub RepeatsAndConstants : Type 0
RepeatsAndConstants =
    elimination 1
    (row Le ((1, pos 1) ∷ []) (pos 0) ∷ row Le ((1, neg_ℤ (pos 1)) ∷ []) (pos 1) ∷ row Le ((2, pos 1) ∷ []) (pos 0)
    ∷ row Le ((2, pos 2) ∷ []) (pos 0) ∷ row Le [] (neg_ℤ (pos 1)) ∷ [])
    ≡ row Le ((2, pos 1) ∷ []) (pos 0) ∷ row Le [] (pos 1) ∷ []
