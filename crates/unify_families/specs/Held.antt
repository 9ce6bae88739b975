-- Pairs of terms of a store that grows.
use Rattle.unify.specs.Pairs.{PairsIn}
use Rattle.unify_families.specs.declared.equations.Equations.{Equations}

-- the pairs' terms are of the store
abbrev pub AreHeld : Equations → Type 0
AreHeld e = PairsIn e.store e.pairs.items
