use Rattle.unify_closure.specs.Turns.{AreOwn}
use Rattle.unify_closure.proofs.closing.places.Given as goal

abbrev pub invariant-loop-place : goal.invariant-loop-place
invariant-loop-place l = AreOwn l.place l.all.items
