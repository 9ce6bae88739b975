use Rattle.std.proofs.Common.{◌<◌, ℕ, List, arith, ◌∙◌, sym, subst, length, get_or}
use Rattle.unify.specs.Graphs.{node_tree}
use Rattle.unify.proofs.ReadOut.{read_more, item_is, below_at, stands_in}
use Rattle.unify.proofs.reading.read_bindings.Goals as goal

pub index-requires : goal.index-requires
index-requires c =
    let order = c.args.solved.now.order.items in
    let items = c.as_slice-place-items.result.now in
    let i = c.loop-place.place-index in
    let within : i < length order = subst (λ (os : List ℕ). i < length os) c.as_slice-place-items.ensures.value c.loop-place-test.true in
    let place : get_or items i 0 < length c.args.nodes.now = subst (λ (os : List ℕ). get_or os i 0 < length c.args.nodes.now) (sym c.as_slice-place-items.ensures.value) (below_at (length c.args.nodes.now) order i c.requires.places.order within) in
    omega (arith, place, c.requires.places.count, c.args.solved.now.stands.ok.0)

pub push_binding-requires-clause-place : goal.push_binding-requires-clause-place
push_binding-requires-clause-place c =
    subst (λ os. get_or os c.loop-place.place-index 0 < length c.args.nodes.now) (sym c.as_slice-place-items.ensures.value)
    (below_at (length c.args.nodes.now) c.args.solved.now.order.items c.loop-place.place-index c.requires.places.order
    (subst (λ os. c.loop-place.place-index < length os) c.as_slice-place-items.ensures.value c.loop-place-test.true))

pub push_binding-requires-clause-stands : goal.push_binding-requires-clause-stands
push_binding-requires-clause-stands c =
    (stands_in c.args.solved.now c.args.nodes.now c.as_slice-place-items.result.now c.loop-place.place-index c.index.result.now c.requires.places c.as_slice-place-items.ensures.value c.loop-place-test.true c.index.ensures).1

pub loop-place-preserved : goal.loop-place-preserved
loop-place-preserved c =
    let order = c.args.solved.now.order.items in
    let i = c.loop-place.place-index in
    let lt = subst (λ os. i < length os) c.as_slice-place-items.ensures.value c.loop-place-test.true in
    let known = stands_in c.args.solved.now c.args.nodes.now c.as_slice-place-items.result.now i c.index.result.now c.requires.places c.as_slice-place-items.ensures.value c.loop-place-test.true c.index.ensures in
    record {
      value = λ store.
          c.in_ok-push_binding.ensures.value store
          ∙ read_more c.args.nodes.now (node_tree store c.args.terms.now) c.args.solved.now.stands.items order i _ _ _ lt
          (item_is order c.as_slice-place-items.result.now i c.as_slice-place-items.ensures.value lt) known.0 (c.loop-place.invariant.value store);
      within = λ store h. c.in_ok-push_binding.ensures.within store (h c.index.result.now known.1) (c.loop-place.invariant.within store h);
    }
