use Rattle.std.proofs.Common.{◌≡◌, ℕ, length, take}
use Rattle.clp_model.specs.Canonical.{place_in}
use Rattle.clp_model.proofs.Membership.{Among}
use Rattle.lin_row.specs.Rows.{at}
use Rattle.clause_store.proofs.table.places.Given as goal

abbrev pub invariant-loop-i : goal.invariant-loop-i
invariant-loop-i l = record {
  count : length l.table.items ≡ l.count;
  places : (n : ℕ) → Among n (take l.i l.met) → at l.table.items n ≡ place_in l.met n;
}
