use Rattle.unify_closure.specs.Sorting.{AreUnmarked}
use Rattle.unify_closure.proofs.sorting.unmarked.Given as goal

abbrev pub invariant-loop-place : goal.invariant-loop-place
invariant-loop-place l = AreUnmarked l._place l.all.items
