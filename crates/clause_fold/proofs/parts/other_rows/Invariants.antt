use Rattle.std.proofs.Common.{◌≡◌, suc, ◌++◌, drop}
use Rattle.fold_model.specs.Positions as spec
use Rattle.clause_fold.proofs.parts.other_rows.Given as goal

abbrev pub invariant-loop-i : goal.invariant-loop-i
invariant-loop-i l = l.left ++ spec.others_from (suc l.i) l.positions (drop l.i l.rows) ≡ spec.others l.positions l.rows
