use Rattle.map_state.specs.Seen.{state_of}
use Rattle.map_replay.proofs.Running.{IsSoFar}
use Rattle.map_replay.proofs.replaying.run_steps.Given as goal

abbrev pub invariant-loop-at : goal.invariant-loop-at
invariant-loop-at l = IsSoFar (state_of l.initial.state) (state_of l.state) l.steps l.at
