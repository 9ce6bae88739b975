use Rattle.std.proofs.Common.{◌≡◌, ◌+◌, ◌≤◌, drop}
use Rattle.map_state.specs.Rows.{count_of}
use Rattle.map_state.proofs.totals.present_count.Given as goal

abbrev pub invariant-loop-clause : goal.invariant-loop-clause
invariant-loop-clause l = record {
  is : l.count + count_of (drop l.clause-index l.clauses) ≡ count_of l.clauses;
  few : l.count ≤ l.clause-index;
}
