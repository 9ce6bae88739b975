use Rattle.unify_closure.proofs.Starting.{walk_starts, next_within}
use Rattle.unify_closure.specs.Sorting.{latest}
use Rattle.unify_closure.proofs.sorting.sort.Goals as goal

pub loop-place-init : goal.loop-place-init
loop-place-init c =
    walk_starts c.args.nodes.now c.args.stands.now c.in_ok-unmarked.field-0.items c.in_ok-unmarked-2.field-0.items c.new.result.items c.in_ok-entered.field-0.items
    c.in_ok-unmarked.ensures c.in_ok-unmarked-2.ensures c.new.ensures.items c.in_ok-entered.ensures

pub visit-requires-clause-within : goal.visit-requires-clause-within
visit-requires-clause-within c =
    next_within c.args.nodes.now c.args.stands.now c.loop-place.walk.entered.items c.loop-place.walk.left.items (latest c.loop-place.walk.order.items) c.loop-place.walk.stack.items c.pop.new.self.items c.in-Some.place c.in-Some.leaving
    c.in-Some.ensures.items c.loop-place.invariant
