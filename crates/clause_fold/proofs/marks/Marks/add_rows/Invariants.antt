use Rattle.std.proofs.Common.{take}
use Rattle.clause_model.specs.Variables.{rows_variables}
use Rattle.clause_fold.specs.Marks.{Adds}
use Rattle.clause_fold.proofs.marks.Marks.add_rows.Given as goal

abbrev pub invariant-loop-row : goal.invariant-loop-row
invariant-loop-row l = Adds l.initial.self l.self (rows_variables (take l.row-index l.rows))
