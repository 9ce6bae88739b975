use Rattle.std.proofs.Common.{◌≡◌, ◌+◌, drop}
use Rattle.clp_model.specs.Canonical.{rows_size}
use Rattle.clause_store.proofs.rows.rows_size.Given as goal

abbrev pub invariant-loop-row : goal.invariant-loop-row
invariant-loop-row l = l.size + rows_size (drop l.row-index l.rows) ≡ rows_size l.rows
