use Rattle.std.proofs.Common.{◌≡◌, map, drop}
use Rattle.clause_store.specs.Source.{meaning_of}
use Rattle.clp_model.specs.Predicates.{predicate_of, clause_predicates, same_predicate, distinct_after}
use Rattle.clause_loader.proofs.predicates.note_clause.Given as goal

abbrev pub invariant-loop-atom : goal.invariant-loop-atom
invariant-loop-atom l =
    distinct_after same_predicate l.found (map predicate_of (drop l.atom-index l.source.atoms)) ≡ distinct_after same_predicate l.fn.found (clause_predicates (meaning_of l.source))
