use Rattle.rules_drop.proofs.Removing.{as_many_atoms, removed_is, removed_parts}
use Rattle.rules_drop.proofs.merging.without_atom.Goals as goal

pub remove-requires : goal.remove-requires
remove-requires c = as_many_atoms c.copy_clause.new.to c.args.store.now c.in_ok-copy.copy c.args.clause.now c.args.place c.in_ok-copy.ensures.same c.requires.within

pub returns-clause-is : goal.returns-clause-is
returns-clause-is c = removed_is c.copy_clause.new.to c.args.store.now c.in_ok-copy.copy c.args.clause.now c.args.place c.in_ok-copy.ensures.same _ c.remove.ensures.rest

pub returns-clause-raw : goal.returns-clause-raw
returns-clause-raw c = removed_parts c.copy_clause.new.to c.args.store.now c.in_ok-copy.copy c.args.clause.now c.args.place c.in_ok-copy.ensures.same _ c.remove.ensures.rest c.in_ok-copy.ensures.stored
