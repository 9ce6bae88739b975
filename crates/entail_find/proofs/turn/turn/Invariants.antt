use Rattle.entail_find.proofs.turn.turn.Given as goal

abbrev pub ghost-make_items : goal.ghost-make_items
ghost-make_items g a = g.count
