use Rattle.std.proofs.Common.{arith, ap, ◌∙◌, sym}
use Rattle.clp_model.specs.Predicates.{program_predicates, same_predicate, distinct_after}
use Rattle.clause_store.specs.Source.{meaning_of}
use Rattle.std.proofs.Common.{map, drop, ◌+◌}
use Rattle.clause_loader.specs.WellFormed.{IsNarrow}
use Rattle.clause_loader.proofs.Items.{each_item}
use Rattle.clause_loader.proofs.Collecting.{clause_noted}
use Rattle.clause_loader.proofs.predicates.predicates_of.Goals as goal

pub note_clause-requires : goal.note_clause-requires
note_clause-requires c = record { narrow = each_item IsNarrow c.args.source.now c.loop-clause.clause-index c.clause-item.result c.requires.narrow (omega arith) c.clause-item.is }

pub loop-clause-preserved : goal.loop-clause-preserved
loop-clause-preserved c =
    ap (λ v. distinct_after same_predicate v (program_predicates (map meaning_of (drop (c.loop-clause.clause-index + 1) c.args.source.now)))) c.in_ok-note_clause.ensures
    ∙ sym (clause_noted c.loop-clause.found c.args.source.now c.loop-clause.clause-index c.clause-item.result (omega arith) c.clause-item.is)
    ∙ c.loop-clause.invariant
