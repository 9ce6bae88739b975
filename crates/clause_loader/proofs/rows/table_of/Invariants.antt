use Rattle.std.proofs.Common.{◌≡◌, ℕ, length, take}
use Rattle.clp_model.proofs.Membership.{Among}
use Rattle.lin_row.specs.Rows.{at}
use Rattle.term_store.specs.Trees.{Keeps}
use Rattle.substitution.specs.Weights.{images}
use Rattle.clause_model.specs.Variables.{rows_variables}
use Rattle.clause_loader.specs.Carried.{number_by}
use Rattle.clause_loader.proofs.rows.table_of.Given as goal

abbrev pub invariant-loop-row : goal.invariant-loop-row
invariant-loop-row l = record {
  keeps : Keeps l.fn.store l.store;
  count : length l.table.items ≡ length l.sorts;
  noted : (n : ℕ) → Among n (rows_variables (take l.row-index l.rows)) → at l.table.items n ≡ number_by l.sorts (images l.fn.store l.s) n;
}
