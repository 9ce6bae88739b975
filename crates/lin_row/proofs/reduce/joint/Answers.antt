use Rattle.lin_row.proofs.Nonzero.{joint_more}
use Rattle.lin_row.proofs.reduce.joint.Goals as goal

pub loop-sum-preserved : goal.loop-sum-preserved
loop-sum-preserved g c =
    let s = c.in-Some.sum in
    let rest = g.S.Source.rest c.args.source.now in
    joint_more c.loop-sum.divisor c.shared-divisor.result _ s.pair.0 s.pair.1 (rest c.loop-sum.i c.loop-sum.j) (rest s.i s.j) c.in-Some.ensures.some c.shared-divisor.ensures c.loop-sum.invariant
