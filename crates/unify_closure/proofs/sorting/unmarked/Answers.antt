use Rattle.std.proofs.Common.{subst, sym, ◌+◌}
use Rattle.unify_closure.specs.Sorting.{AreUnmarked}
use Rattle.unify_closure.proofs.Starting.{unmarked_more}
use Rattle.unify_closure.proofs.sorting.unmarked.Goals as goal

pub loop-place-preserved : goal.loop-place-preserved
loop-place-preserved c =
    subst (AreUnmarked (c.loop-place._place + 1)) (sym c.in_ok-push.ensures.items) (unmarked_more c.loop-place._place c.loop-place.all.items c.loop-place.invariant)
