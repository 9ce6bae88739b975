use Rattle.std.proofs.Common.{ℕ, ℤ, ◌<◌, ◌≤◌, slice_index_or}
use Rattle.row_tests.proofs.table.is_numbered.Given as goal

abbrev pub invariant-loop-p : goal.invariant-loop-p
invariant-loop-p l = (k : ℕ) → (d : ℕ × ℤ) → k < l.p-index → (0 < (slice_index_or l.pairs k d).0) × ((slice_index_or l.pairs k d).0 ≤ l.count)
