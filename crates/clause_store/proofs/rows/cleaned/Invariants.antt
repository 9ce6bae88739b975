use Rattle.std.proofs.Common.{◌≡◌, [], drop}
use Rattle.std.specs.List.{filter}
use Rattle.clp_model.specs.Predicates.{distinct_after}
use Rattle.linear_model.specs.Normal.{row_eq}
use Rattle.clause_store.proofs.RowForms.{is_open}
use Rattle.clause_store.proofs.rows.cleaned.Given as goal

abbrev pub invariant-loop-row : goal.invariant-loop-row
invariant-loop-row l = distinct_after row_eq l.kept (filter is_open (drop l.row-index l.rows)) ≡ distinct_after row_eq [] (filter is_open l.rows)
