use Rattle.std.proofs.Common.{arith}
use Rattle.term_store.specs.Trees.{tree_at}
use Rattle.substitution.proofs.Weighed.{height_low}
use Rattle.substitution.proofs.building.apply.Goals as goal

pub weigh-requires-clause-known : goal.weigh-requires-clause-known
weigh-requires-clause-known c =
    let h = height_low c.args.s.now.images.bindings (tree_at c.args.store.now c.args.t) in
    let n = c.requires.of.count in
    let e = c.as_slice.ensures.value in
    grind (arith, h, n, e)
