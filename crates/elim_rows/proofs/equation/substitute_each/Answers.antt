use Rattle.std.proofs.lemmas.Result.{err_from_is_err_and}
use Rattle.elim_rows.specs.Kept.{of_substituted}
use Rattle.elim_rows.proofs.Adding.{adds_next, outside_at}
use Rattle.elim_rows.proofs.equation.substitute_each.Goals as goal

pub loop-row-preserved : goal.loop-row-preserved
loop-row-preserved c =
    adds_next (of_substituted c.args.var c.args.equation.now) c.args.rows.now c.loop-row.row-index c.row-item.result c.args.kept.now c.loop-row.kept c.substitute.new.kept
    c.loop-row-test.true c.row-item.is c.loop-row.invariant c.in_ok-substitute.ensures.value

pub returns-in_err-substitute-clause-overflow : goal.returns-in_err-substitute-clause-overflow
returns-in_err-substitute-clause-overflow c = λ h.
    let p = err_from_is_err_and c.from_residual.result c.from_residual.ensures.1 in
    let made = p.1 in
    let same = p.2 in
    outside_at (of_substituted c.args.var c.args.equation.now) c.args.rows.now c.loop-row.row-index c.row-item.result c.loop-row-test.true c.row-item.is (c.in_err-substitute.ensures.overflow cc)
