use Rattle.std.proofs.Common.{arith, rules, FitsSigned, w64}
use Rattle.std.proofs.lemmas.Int.{ints}
use Rattle.std.proofs.lemmas.Result.{err_from_is_err_and}
use Rattle.elim_rows.specs.Kept.{of_upper}
use Rattle.elim_rows.proofs.Adding.{adds_next, outside_at}
use Rattle.elim_rows.proofs.Making.{lower_bound}
use Rattle.elim_rows.proofs.bounds.pair_with_each.Goals as goal

pub loop-row-preserved : goal.loop-row-preserved
loop-row-preserved c =
    adds_next (of_upper c.args.var c.args.lower.now) c.args.rows.now c.loop-row.row-index c.row-item.result c.args.kept.now c.loop-row.kept c.pair_with.new.kept
    c.loop-row-test.true c.row-item.is c.loop-row.invariant c.in_ok-pair_with.ensures.value

pub returns-in_err-pair_with-clause-overflow : goal.returns-in_err-pair_with-clause-overflow
returns-in_err-pair_with-clause-overflow c = λ h.
    let p = err_from_is_err_and c.from_residual.result c.from_residual.ensures.1 in
    let made = p.1 in
    let same = p.2 in
    let here = c.coefficient_of.ensures.value in
    let fits : FitsSigned w64 c.coefficient_of.result = search rules in
    rw (lower_bound c.args.var c.args.rows.now c.args.lower.now (omega (arith, ints))) (outside_at (of_upper c.args.var c.args.lower.now) c.args.rows.now c.loop-row.row-index c.row-item.result c.loop-row-test.true c.row-item.is (c.in_err-pair_with.ensures.overflow cc))
