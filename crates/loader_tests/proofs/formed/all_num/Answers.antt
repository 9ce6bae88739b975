use Rattle.std.proofs.Common.{refl, arith}
use Rattle.clause_model.specs.Variables.{rows_variables}
use Rattle.clause_store.specs.Stored.{IsNum}
use Rattle.loader_tests.proofs.Items.{rows_more, taken}
use Rattle.loader_tests.proofs.formed.all_num.Goals as goal

pub loop-row-preserved : goal.loop-row-preserved
loop-row-preserved c = rows_more (IsNum c.args.sorts.now) c.args.rows.now c.loop-row.row-index c.row-item.result (omega arith) c.row-item.is c.loop-row.invariant (c.if-not-are_num.ensures refl)

pub returns : goal.returns
returns c = λ t. taken rows_variables (IsNum c.args.sorts.now) c.args.rows.now c.loop-row.row-index (omega arith) c.loop-row.invariant
