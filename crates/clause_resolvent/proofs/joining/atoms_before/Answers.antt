use Rattle.clause_resolvent.proofs.JoinedParts.{front_in}
use Rattle.clause_resolvent.proofs.joining.atoms_before.Goals as goal

pub copy_all-requires : goal.copy_all-requires
copy_all-requires c = front_in c.args.store.now c.args.c.now c.args.place c.as_slice.result.now c.front.result.now c.requires.stored c.as_slice.ensures c.front.ensures
