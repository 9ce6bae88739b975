use Rattle.elim_rows.specs.Kept.{of_other}
use Rattle.elim_rows.proofs.Adding.{adds_next}
use Rattle.elim_rows.proofs.bounds.keep_others.Goals as goal

pub loop-row-preserved : goal.loop-row-preserved
loop-row-preserved c =
    adds_next (of_other c.args.var) c.args.rows.now c.loop-row.row-index c.row-item.result c.args.kept.now c.loop-row.kept c.keep_other.new.kept
    c.loop-row-test.true c.row-item.is c.loop-row.invariant c.in_ok-keep_other.ensures.value
