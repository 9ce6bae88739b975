use Rattle.std.proofs.Common.{◌≡◌, drop, nat_eq}
use Rattle.std.specs.List.{list_any}
use Rattle.clause_model.specs.Variables.{rows_variables}
use Rattle.clause_printer.proofs.constraints.have_variable.Given as goal

abbrev pub invariant-loop-row : goal.invariant-loop-row
invariant-loop-row l = list_any (λ m. nat_eq m l.number) (rows_variables (drop l.row-index l.rows)) ≡ list_any (λ m. nat_eq m l.number) (rows_variables l.fn.rows)
