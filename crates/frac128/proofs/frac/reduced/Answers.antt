use Rattle.std.proofs.Common.{arith, refl, to_z, of_z, pos}
use Rattle.std.specs.Prelude.{int_div}
use Rattle.std.proofs.lemmas.Int.{to_z-of_z}
use mir.Syntax.{w128}
use Rattle.frac128.proofs.Reducing.{divisor_above, den_past, num_past, stored_small, stored_lowest, stored_ok}
use Rattle.frac128.proofs.frac.reduced.Goals as goal

pub nonzero_div-small : goal.nonzero_div-small
nonzero_div-small c = divisor_above c.args.den c.unsigned_abs.result c.gcd-divisor.result c.requires c.gcd-divisor.ensures

pub divided-requires : goal.divided-requires
divided-requires c = divisor_above c.args.den c.unsigned_abs.result c.gcd-divisor.result c.requires c.gcd-divisor.ensures

pub returns-then-small-gt-LIMIT : goal.returns-then-small-gt-LIMIT
returns-then-small-gt-LIMIT c =
    let fits = c.ranges.num in
    let v = to_z w128 (of_z w128 c.args.num) in
    let g = c.gcd-divisor.result in
    record { value = den_past c.args.num v (int_div v (pos g)) c.args.den c.unsigned_abs.result g c.requires (to_z-of_z w128 c.args.num fits) c.unsigned_abs.ensures.value c.gcd-divisor.ensures refl c.if-small-gt-LIMIT.true }

pub invariant_of-result : goal.invariant_of-result
invariant_of-result c =
    let fits = c.ranges.num in
    let h = c.in-Some.ensures.some in
    let v = to_z w128 (of_z w128 c.args.num) in
    let g = c.gcd-divisor.result in
    let kd = c.if-small-gt-LIMIT.false in (
      stored_lowest c.args.num v c.in-Some.num c.args.den c.unsigned_abs.result g c.requires (to_z-of_z w128 c.args.num fits) c.unsigned_abs.ensures.value c.gcd-divisor.ensures h.0 h.1 (omega arith),
      stored_small c.args.num v c.in-Some.num c.args.den c.unsigned_abs.result g c.requires (to_z-of_z w128 c.args.num fits) c.unsigned_abs.ensures.value c.gcd-divisor.ensures h.0 h.1 (omega arith),
    )

pub returns-in-Some : goal.returns-in-Some
returns-in-Some c =
    let fits = c.ranges.num in
    let h = c.in-Some.ensures.some in
    let v = to_z w128 (of_z w128 c.args.num) in
    let g = c.gcd-divisor.result in
    let kd = c.if-small-gt-LIMIT.false in
    record { value = stored_ok c.args.num v c.in-Some.num c.args.den c.unsigned_abs.result g c.requires (to_z-of_z w128 c.args.num fits) c.unsigned_abs.ensures.value c.gcd-divisor.ensures h.0 h.1 (omega arith) }

pub returns-in-None : goal.returns-in-None
returns-in-None c =
    let fits = c.ranges.num in
    let v = to_z w128 (of_z w128 c.args.num) in
    let g = c.gcd-divisor.result in
    record { value = num_past c.args.num v (int_div v (pos g)) c.args.den c.unsigned_abs.result g c.requires (to_z-of_z w128 c.args.num fits) c.unsigned_abs.ensures.value c.gcd-divisor.ensures refl c.in-None.ensures.none }
