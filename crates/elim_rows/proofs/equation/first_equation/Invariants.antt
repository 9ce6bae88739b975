use Rattle.std.proofs.Common.{◌≡◌, take, drop}
use Rattle.linear_model.specs.Elimination.{first_equation, row_itself}
use Rattle.elim_rows.proofs.Finding.{found_after}
use Rattle.elim_rows.proofs.equation.first_equation.Given as goal

abbrev pub invariant-loop-place : goal.invariant-loop-place
invariant-loop-place l = first_equation row_itself l.var l.rows ≡ found_after (take l.place l.rows) (first_equation row_itself l.var (drop l.place l.rows))
