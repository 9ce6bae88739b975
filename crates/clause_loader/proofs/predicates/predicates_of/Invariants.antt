use Rattle.std.proofs.Common.{◌≡◌, map, drop}
use Rattle.clause_store.specs.Source.{meaning_of}
use Rattle.clp_model.specs.Predicates.{program_predicates, initial_predicates, same_predicate, distinct_after}
use Rattle.clause_loader.proofs.predicates.predicates_of.Given as goal

abbrev pub invariant-loop-clause : goal.invariant-loop-clause
invariant-loop-clause l =
    distinct_after same_predicate l.found (program_predicates (map meaning_of (drop l.clause-index l.source))) ≡ initial_predicates (map meaning_of l.source)
