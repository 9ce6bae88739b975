use Rattle.std.proofs.Common.{length, ap, arith}
use Rattle.map_state.proofs.Placed.{few_rows}
use Rattle.rules_fold.proofs.showing.show_folded.Goals as goal

pub other_rows-requires : goal.other_rows-requires
other_rows-requires c =
    let few = few_rows c.args.store.now c.args.c.now c.requires.clause in
    let same = ap length c.as_slice.ensures in
    omega (arith, few, same)
