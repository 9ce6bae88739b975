use Rattle.std.proofs.Common.{◌≡◌, drop}
use Rattle.farkas_check.specs.Walk as spec
use Rattle.farkas_check.proofs.walk.next_variable.Given as goal

abbrev pub invariant-loop-row : goal.invariant-loop-row
invariant-loop-row l = spec.least_in_rows l.from (drop l.row-index l.rows) l.least ≡ spec.next_variable l.from l.rows l.pairs
