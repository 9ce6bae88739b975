use Rattle.std.proofs.Common.{◌<◌, arith, subst, sym}
use Rattle.std.proofs.lemmas.Int.{to_z-of_z}
use Rattle.elim_rows.proofs.Coefficients.{magnitude_positive, gcd_above, gcd_small}
use Rattle.elim_rows.proofs.cancelling.factors.Goals as goal

pub overflow_cast-divisor : goal.overflow_cast-divisor
overflow_cast-divisor c =
    let fits = c.ranges.a in
    let v = simp to_z-of_z at c.unsigned_abs-a.ensures.value in
    let p = magnitude_positive c.args.a c.requires.a_not_zero in
    let k = gcd_small c.unsigned_abs-a.result c.unsigned_abs-b.result c.gcd-divisor.result c.gcd-divisor.ensures (subst (λ n. 0 < n) (sym v) p) in
    omega arith

pub nonzero_div-result : goal.nonzero_div-result
nonzero_div-result c =
    let fits = c.ranges.a in
    let v = simp to_z-of_z at c.unsigned_abs-a.ensures.value in
    let p = magnitude_positive c.args.a c.requires.a_not_zero in
    gcd_above c.unsigned_abs-a.result c.unsigned_abs-b.result c.gcd-divisor.result c.gcd-divisor.ensures (subst (λ n. 0 < n) (sym v) p)

pub nonzero_div-result-2 : goal.nonzero_div-result-2
nonzero_div-result-2 c =
    let fits = c.ranges.a in
    let v = simp to_z-of_z at c.unsigned_abs-a.ensures.value in
    let p = magnitude_positive c.args.a c.requires.a_not_zero in
    gcd_above c.unsigned_abs-a.result c.unsigned_abs-b.result c.gcd-divisor.result c.gcd-divisor.ensures (subst (λ n. 0 < n) (sym v) p)
