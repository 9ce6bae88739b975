use Rattle.std.proofs.Common.{pos, arith}
use Rattle.std.proofs.lemmas.Int.{to_z-of_z}
use Rattle.chain_items.proofs.Reading.{met, gone_past}
use Rattle.chain_items.proofs.item.coefficient_in.Goals as goal

pub returns-then-p-variable : goal.returns-then-p-variable
returns-then-p-variable c =
    let e = met c.args.pairs.now c.loop-p.p-index (0, pos 0) c.args.variable c.loop-p-test.true c.loop-p.invariant.rising c.loop-p.invariant.so_far c.if-p-variable.true in
    grind (arith, to_z-of_z)

pub returns-then-p-variable-2 : goal.returns-then-p-variable-2
returns-then-p-variable-2 c = gone_past c.args.pairs.now c.loop-p.p-index (0, pos 0) c.args.variable c.loop-p-test.true c.loop-p.invariant.rising c.loop-p.invariant.so_far c.if-p-variable-2.true
