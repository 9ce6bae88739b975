use Rattle.std.proofs.Common.{◌≡◌}
use Rattle.linear_model.specs.Normal.{first_is_negative}
use Rattle.lin_row.proofs.reduce.first_is_negative.Given as goal

abbrev pub invariant-loop-sum : goal.invariant-loop-sum
invariant-loop-sum g l = first_is_negative (g.S.Source.rest l.source l.i l.j) ≡ first_is_negative (g.S.Source.rest l.source 0 0)

abbrev pub decreases-loop-sum : goal.decreases-loop-sum
decreases-loop-sum g l = g.S.Source.steps l.source l.i l.j
