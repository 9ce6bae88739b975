use Rattle.entail_find.proofs.turn.make_items.Given as goal

abbrev pub ghost-substitute_each : goal.ghost-substitute_each
ghost-substitute_each g a = g.count

abbrev pub ghost-pair_each : goal.ghost-pair_each
ghost-pair_each g a = g.count
