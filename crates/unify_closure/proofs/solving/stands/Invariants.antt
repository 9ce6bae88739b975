use Rattle.std.proofs.Common.{◌≡◌}
use Rattle.unify_closure.specs.Classes.{HaveSameRoots}
use Rattle.unify_closure.specs.Turns.{IsSound}
use Rattle.unify_closure.specs.Solved.{StandsFor}
use Rattle.unify_closure.proofs.solving.stands.Given as goal

abbrev pub invariant-loop-place : goal.invariant-loop-place
invariant-loop-place l = record {
  sound : IsSound l.count l.state.parents.items l.state.best.items;
  same : HaveSameRoots l.fn.state.parents.items l.state.parents.items;
  best : l.state.best.items ≡ l.fn.state.best.items;
  stands : StandsFor l.place l.fn.state l.all.items;
}
