use Rattle.std.proofs.Common.{arith, length}
use Rattle.clause_fold.proofs.Marked.{row_numbered, rows_more}
use Rattle.clause_fold.proofs.marks.Marks.add_rows.Goals as goal

pub add_row-requires : goal.add_row-requires
add_row-requires c = row_numbered c.args.rows.now c.loop-row.row-index c.row-item.result (length c.loop-row.self) (length c.args.self.now) (omega arith) c.row-item.is c.loop-row.invariant.count c.requires

pub loop-row-preserved : goal.loop-row-preserved
loop-row-preserved c = rows_more c.args.rows.now c.loop-row.row-index c.row-item.result c.args.self.now c.loop-row.self c.add_row.new.self (omega arith) c.row-item.is c.loop-row.invariant c.add_row.ensures
