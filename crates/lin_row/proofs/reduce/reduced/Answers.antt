use Rattle.std.proofs.Common.{◌≡◌, max, arith}
use Rattle.std.proofs.lemmas.Int.{to_z-of_z}
use Rattle.std.specs.Prelude.{unsigned_abs}
use Rattle.linear_model.specs.Normal.{joint_gcd}
use Rattle.lin_row.proofs.Made.{made_kept, constant_past}
use Rattle.lin_row.proofs.reduce.reduced.Goals as goal

pub invariant_of-result : goal.invariant_of-result
invariant_of-result g c =
    let fits = c.ranges.constant in
    let ps = g.S.Source.rest c.args.source.now 0 0 in
    let j = simp to_z-of_z at c.joint.ensures in
    let e : c.max-divisor.result ≡ max 1 (joint_gcd (unsigned_abs c.args.constant) ps) = omega arith in
    let h = simp to_z-of_z at c.in-Some.ensures.some in
    made_kept c.args.rel ps c.in_ok-pairs.pairs.items c.args.constant c.in-Some.constant c.max-divisor.result c.is_flipped-is_flipped.result
    c.requires.rising e c.is_flipped-is_flipped.ensures c.in_ok-pairs.ensures.value c.in_ok-pairs.ensures.within h.0 h.1

pub returns-in-Some-clause-kept : goal.returns-in-Some-clause-kept
returns-in-Some-clause-kept g c =
    let fits = c.ranges.constant in
    let ps = g.S.Source.rest c.args.source.now 0 0 in
    let j = simp to_z-of_z at c.joint.ensures in
    let e : c.max-divisor.result ≡ max 1 (joint_gcd (unsigned_abs c.args.constant) ps) = omega arith in
    let h = simp to_z-of_z at c.in-Some.ensures.some in
    made_kept c.args.rel ps c.in_ok-pairs.pairs.items c.args.constant c.in-Some.constant c.max-divisor.result c.is_flipped-is_flipped.result
    c.requires.rising e c.is_flipped-is_flipped.ensures c.in_ok-pairs.ensures.value c.in_ok-pairs.ensures.within h.0 h.1

pub returns-in-None-clause-overflow : goal.returns-in-None-clause-overflow
returns-in-None-clause-overflow g c k =
    let fits = c.ranges.constant in
    let ps = g.S.Source.rest c.args.source.now 0 0 in
    let j = simp to_z-of_z at c.joint.ensures in
    let e : c.max-divisor.result ≡ max 1 (joint_gcd (unsigned_abs c.args.constant) ps) = omega arith in
    let h = simp to_z-of_z at c.in-None.ensures.none in
    constant_past c.args.rel ps c.in_ok-pairs.pairs.items c.args.constant c.args.constant c.max-divisor.result c.is_flipped-is_flipped.result
    e c.is_flipped-is_flipped.ensures h
