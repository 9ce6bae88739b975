use Rattle.std.proofs.Common.{◌≡◌}
use Rattle.std.specs.Prelude.{unsigned_abs}
use Rattle.linear_model.specs.Normal.{joint_gcd}
use Rattle.lin_row.proofs.reduce.joint.Given as goal

abbrev pub invariant-loop-sum : goal.invariant-loop-sum
invariant-loop-sum g l = joint_gcd l.divisor (g.S.Source.rest l.source l.i l.j) ≡ joint_gcd (unsigned_abs l.fn.constant) (g.S.Source.rest l.source 0 0)

abbrev pub decreases-loop-sum : goal.decreases-loop-sum
decreases-loop-sum g l = g.S.Source.steps l.source l.i l.j
