use Rattle.std.proofs.Common.{◌≡◌, ℕ, ◌+◌, ◌<◌, ◌++◌, drop, get_or}
use Rattle.clp_model.specs.Clauses.{Row}
use Rattle.linear_model.specs.Forms.{IsRising}
use Rattle.entail_find.specs.Beginning.{numbered}
use Rattle.entail_find.proofs.begin.begin.Given as goal

abbrev pub invariant-loop-i : goal.invariant-loop-i
invariant-loop-i l = record {
  so_far : l.items.items ++ numbered (l.place + l.i) l.count (drop l.i l.rows) ≡ numbered l.place l.count l.rows;
  rising : (k : ℕ) (d : Row) → k < l.i → IsRising (get_or l.rows k d).pairs;
}
