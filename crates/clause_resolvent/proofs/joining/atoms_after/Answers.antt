use Rattle.clause_resolvent.proofs.JoinedParts.{back_in}
use Rattle.clause_resolvent.proofs.joining.atoms_after.Goals as goal

pub copy_all-requires : goal.copy_all-requires
copy_all-requires c = back_in c.args.store.now c.args.c.now c.args.place c.as_slice.result.now c.back.result.now c.requires.stored c.as_slice.ensures c.back.ensures
