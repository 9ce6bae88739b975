use Rattle.unify_closure.specs.Sorting.{AreEntered}
use Rattle.unify_closure.proofs.sorting.entered.Given as goal

abbrev pub invariant-loop-place : goal.invariant-loop-place
invariant-loop-place l = AreEntered l.place l.all.items
