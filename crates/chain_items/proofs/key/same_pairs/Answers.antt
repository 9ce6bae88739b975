use Rattle.std.proofs.Common.{sym}
use Rattle.std.proofs.lemmas.Int.{to_z-of_z}
use Rattle.chain_items.proofs.Comparing.{differ_at}
use Rattle.chain_items.proofs.key.same_pairs.Goals as goal

pub returns-then-not-same_pair : goal.returns-then-not-same_pair
returns-then-not-same_pair c =
    let fd = c.ranges.divisor in
    let fe = c.ranges.other_divisor in
    let x = c.in-Some-Some.ensures.lookup.3 in
    let y = c.in-Some-Some.ensures'.lookup.3 in
    differ_at c.args.divisor c.args.other_divisor c.args.pairs.now c.args.others.now c.loop-p.i c.in-Some-Some.p.now c.in-Some-Some.q.now _ x.0 x.1 y.0 y.1 (simp to_z-of_z at (sym c.if-not-same_pair.ensures)) (simp to_z-of_z at c.loop-p.invariant.so_far)
