use Rattle.std.proofs.Common.{take, All}
use Rattle.clause_model.specs.Variables.{rows_variables}
use Rattle.clause_store.specs.Stored.{IsNum}
use Rattle.loader_tests.proofs.formed.all_num.Given as goal

abbrev pub invariant-loop-row : goal.invariant-loop-row
invariant-loop-row l = All (IsNum l.sorts) (rows_variables (take l.row-index l.rows))
