use Rattle.clause_resolvent.proofs.RaisedRows.{rows_more, rows_end, kept_row, low_row}
use Rattle.std.proofs.Common.{arith}
use Rattle.unfold_model.specs.Resolvent.{past}
use Rattle.clause_resolvent.proofs.rows.raised_rows.Goals as goal

pub raised_row-requires-clause-low : goal.raised_row-requires-clause-low
raised_row-requires-clause-low c = low_row c.args.rows.now c.loop-row.row-index c.row-item.result (omega arith) c.row-item.is c.requires.low

pub raised_row-requires-clause-kept : goal.raised_row-requires-clause-kept
raised_row-requires-clause-kept c = kept_row c.args.rows.now c.loop-row.row-index c.row-item.result (omega arith) c.row-item.is c.requires.kept

pub loop-row-preserved : goal.loop-row-preserved
loop-row-preserved c =
    rows_more (past c.args.by) c.args.rows.now c.loop-row.all c.push.new.self c.loop-row.row-index c.row-item.result c.in_ok-raised_row.field-0 (omega arith) c.row-item.is
    c.loop-row.invariant c.in_ok-raised_row.ensures c.in_ok-push.ensures.ok

pub returns : goal.returns
returns c = rows_end (past c.args.by) c.args.rows.now c.loop-row.all c.loop-row.row-index c.loop-row-test.false c.loop-row.invariant
