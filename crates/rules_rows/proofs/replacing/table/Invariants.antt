use Rattle.std.proofs.Common.{◌≡◌, ℕ, ◌<◌, ◌≤◌, length}
use Rattle.lin_row.specs.Rows.{at}
use Rattle.replace_model.specs.Rows.{replacing}
use Rattle.rules_rows.proofs.replacing.table.Given as goal

abbrev pub invariant-loop-place : goal.invariant-loop-place
invariant-loop-place l = record {
  count : length l.table.items ≡ l.place;
  places : (n : ℕ) → 0 < n → n ≤ l.place → at l.table.items n ≡ replacing l.var l.to n;
}
