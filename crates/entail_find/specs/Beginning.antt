-- The items at the start, by the places of their own multipliers.
use Rattle.std.specs.Prelude.{ℕ, ◌+◌, pos, List, [], ◌∷◌}
use Rattle.clp_model.specs.Clauses.{Row}
use Rattle.linear_model.specs.Items.{Item}
use Rattle.chain_items.specs.Items.{item_of}

-- rows whose multipliers stand from a place on
abbrev pub numbered : ℕ → ℕ → List Row → List Item
numbered place count [] = []
numbered place count (r ∷ rs) = item_of r count ((place, pos 1) ∷ []) ∷ numbered (place + 1) count rs
