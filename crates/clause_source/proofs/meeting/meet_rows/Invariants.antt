use Rattle.std.proofs.Common.{◌≡◌, drop, nat_eq}
use Rattle.clp_model.specs.Predicates.{distinct_after}
use Rattle.clause_model.specs.Variables.{rows_variables}
use Rattle.clause_source.proofs.meeting.meet_rows.Given as goal

abbrev pub invariant-loop-row : goal.invariant-loop-row
invariant-loop-row l = distinct_after nat_eq l.met (rows_variables (drop l.row-index l.rows)) ≡ distinct_after nat_eq l.initial.met (rows_variables l.rows)
