use Rattle.std.proofs.Common.{subst, sym, ◌+◌}
use Rattle.unify_closure.specs.Sorting.{AreEntered}
use Rattle.unify_closure.proofs.Starting.{entered_more}
use Rattle.unify_closure.proofs.sorting.entered.Goals as goal

pub loop-place-preserved : goal.loop-place-preserved
loop-place-preserved c =
    subst (AreEntered (c.loop-place.place + 1)) (sym c.in_ok-push.ensures.items) (entered_more c.loop-place.place c.loop-place.all.items c.loop-place.invariant)
