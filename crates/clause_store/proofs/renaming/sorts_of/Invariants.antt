use Rattle.std.proofs.Common.{◌≡◌, map, take}
use Rattle.clp_model.specs.Clauses.{sort_in}
use Rattle.clause_store.proofs.renaming.sorts_of.Given as goal

abbrev pub invariant-loop-number : goal.invariant-loop-number
invariant-loop-number l = l.found ≡ map (sort_in l.sorts) (take l.number-index l.met)
