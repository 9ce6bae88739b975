use Rattle.std.proofs.lemmas.Result.{err_from_is_err_and}
use Rattle.elim_rows.specs.Kept.{of_lower}
use Rattle.elim_rows.proofs.Adding.{adds_next, outside_at}
use Rattle.elim_rows.proofs.bounds.pair_bounds.Goals as goal

pub loop-lower-preserved : goal.loop-lower-preserved
loop-lower-preserved c =
    adds_next (of_lower c.args.var c.args.rows.now) c.args.rows.now c.loop-lower.lower-index c.lower-item.result c.args.kept.now c.loop-lower.kept c.pair_with_each.new.kept
    c.loop-lower-test.true c.lower-item.is c.loop-lower.invariant c.in_ok-pair_with_each.ensures.value

pub returns-in_err-pair_with_each-clause-overflow : goal.returns-in_err-pair_with_each-clause-overflow
returns-in_err-pair_with_each-clause-overflow c = λ h.
    let p = err_from_is_err_and c.from_residual.result c.from_residual.ensures.1 in
    let made = p.1 in
    let same = p.2 in
    outside_at (of_lower c.args.var c.args.rows.now) c.args.rows.now c.loop-lower.lower-index c.lower-item.result c.loop-lower-test.true c.lower-item.is (c.in_err-pair_with_each.ensures.overflow cc)
