-- Worked examples of certificates and of the chain that finds them.
use Rattle.std.specs.Prelude.{◌≡◌, ◌^◌, ◌-◌, ℕ, pos, neg_ℤ, List, [], ◌∷◌}
use Rattle.clp_model.specs.Clauses.{Row}
use Rattle.clp_model.specs.declared.sort.Rel.TheVariants.{Eq, Le, Lt}
use Rattle.linear_model.specs.Certificates.{Part, Shows}
use Rattle.linear_model.specs.Items.{Item}
use Rattle.linear_model.specs.Chain.{Shown, NotEntailed, Overflow, chain, begun, begun_with, signed, part_of}
use Rattle.linear_examples.specs.Rows.{row}

-- `V1 < 0` and `V1 - V2 - 1 = 0`
abbrev pub two_rows : List Row
two_rows = row Lt ((1, pos 1) ∷ []) (pos 0) ∷ row Eq ((1, pos 1) ∷ (2, neg_ℤ (pos 1)) ∷ []) (neg_ℤ (pos 1)) ∷ []

-- `V2 < 0`
abbrev pub below_zero : Row
below_zero = row Lt ((2, pos 1) ∷ []) (pos 0)

-- the target once, the first row once, the second row -1 times
abbrev pub first_part : Part
first_part = record { k = pos 1; m = pos 1 ∷ neg_ℤ (pos 1) ∷ [] }

-- the chain finds it, and it shows the target
abbrev pub ChainShows : Type 0
ChainShows = (i : Item) × (chain (begun_with two_rows below_zero) ≡ Shown i) × (part_of (signed i) ≡ first_part)

abbrev pub PartShows : Type 0
PartShows = Shows two_rows below_zero first_part

-- `V1 =< 0` does not show `V1 < 0`, and the chain finds nothing
abbrev pub NoPartForStrict : Type 0
NoPartForStrict =
    ¬ (Shows (row Le ((1, pos 1) ∷ []) (pos 0) ∷ []) (row Lt ((1, pos 1) ∷ []) (pos 0)) (record { k = pos 1; m = pos 1 ∷ [] }))

abbrev pub ChainFindsNothing : Type 0
ChainFindsNothing = chain (begun_with (row Le ((1, pos 1) ∷ []) (pos 0) ∷ []) (row Lt ((1, pos 1) ∷ []) (pos 0))) ≡ NotEntailed

-- `V1 - 1 = 0` and `V1 - 3 = 0` have no common solution: the first once and the second -1 times is `2 = 0`
abbrev pub ChainShowsFalse : Type 0
ChainShowsFalse =
    (i : Item)
    × (chain (begun (row Eq ((1, pos 1) ∷ []) (neg_ℤ (pos 1)) ∷ row Eq ((1, pos 1) ∷ []) (neg_ℤ (pos 3)) ∷ [])) ≡ Shown i)
    × (signed i ≡ pos 1 ∷ neg_ℤ (pos 1) ∷ [])

-- no multiplier below 0 of an inequality: -1 times `V1 - 1 =< 0` does not show `-V1 =< 0`
abbrev pub NoNegativeMultiplier : Type 0
NoNegativeMultiplier =
    ¬ (Shows (row Le ((1, pos 1) ∷ []) (neg_ℤ (pos 1)) ∷ []) (row Le ((1, neg_ℤ (pos 1)) ∷ []) (pos 0)) (record { k = pos 1; m = neg_ℤ (pos 1) ∷ [] }))

-- from `3*V1 + 2^63 - 1 < 0` and `-2*V1 < 0` comes the constant 2^64 - 2, which is past the limit of a row
abbrev pub ChainLeavesTheRowLimit : Type 0
ChainLeavesTheRowLimit =
    chain (begun (row Lt ((1, pos 3) ∷ []) (pos (2 ^ 63 - 1)) ∷ row Lt ((1, neg_ℤ (pos 2)) ∷ []) (pos 0) ∷ [])) ≡ Overflow

-- of `n*V1 < 0` and `-V1 < 0` the second is taken n times
abbrev pub times_and_once : ℕ → List Row
times_and_once n = row Lt ((1, pos n) ∷ []) (pos 0) ∷ row Lt ((1, neg_ℤ (pos 1)) ∷ []) (pos 0) ∷ []

-- the multiplier 2^56 - 1 is within the limit
abbrev pub ChainAtTheMultiplierLimit : Type 0
ChainAtTheMultiplierLimit = (i : Item) × (chain (begun (times_and_once (2 ^ 56 - 1))) ≡ Shown i) × (signed i ≡ pos 1 ∷ pos (2 ^ 56 - 1) ∷ [])

-- the multiplier 2^56 is past it
abbrev pub ChainLeavesTheMultiplierLimit : Type 0
ChainLeavesTheMultiplierLimit = chain (begun (times_and_once (2 ^ 56))) ≡ Overflow
