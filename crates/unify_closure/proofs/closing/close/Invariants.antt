use Rattle.std.proofs.Common.{length}
use Rattle.unify_closure.specs.Turns.{IsSound, Closes, cost}
use Rattle.unify_closure.proofs.closing.close.Given as goal

abbrev pub invariant-loop-a : goal.invariant-loop-a
invariant-loop-a l = record {
  sound : IsSound (length l.nodes) l.state.parents.items l.state.best.items;
  closes : Closes l.nodes l.state l.state.work.items l.equations;
}

abbrev pub decreases-loop-a : goal.decreases-loop-a
decreases-loop-a l = cost l.state
