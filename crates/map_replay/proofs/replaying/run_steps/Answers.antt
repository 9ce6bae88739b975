use Rattle.std.proofs.Common.{arith}
use Rattle.map_replay.proofs.Running.{more_so_far}
use Rattle.map_replay.proofs.replaying.run_steps.Goals as goal

pub loop-at-preserved : goal.loop-at-preserved
loop-at-preserved c = more_so_far _ _ _ _ _ c.index-steps-at.result c.loop-at.invariant (omega arith) c.index-steps-at.is c.in-Ok.ensures.accepted
