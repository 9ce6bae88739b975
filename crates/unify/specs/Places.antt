-- The places of a graph's variables.
use Rattle.std.specs.Prelude.{ℕ, nat_eq, Option}
use Rattle.clp_model.specs.declared.sort.Sort.{Sort}
use Rattle.clp_model.specs.declared.sort.Sort.TheVariants.{Any, Num}
use Rattle.indexmap.specs.IndexMap.{get}
use Rattle.unify.specs.declared.places.VariablePlaces.{VariablePlaces}

-- the place that is noted for a variable
abbrev pub place_of : VariablePlaces → ℕ → Sort → Option ℕ
place_of v n Any = get nat_eq v.any n
place_of v n Num = get nat_eq v.numbers n
