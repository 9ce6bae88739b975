use Rattle.std.proofs.Common.{◌≡◌, ◌≤◌, ◌*◌, ◌++◌, drop}
use Rattle.std.specs.Prelude.{unsigned_abs}
use Rattle.linear_model.specs.Normal.{limit}
use Rattle.lin_row.specs.Renaming.{runs, summed}
use Rattle.lin_row.proofs.rename.summed.Given as goal

abbrev pub invariant-loop-i : goal.invariant-loop-i
invariant-loop-i l = record {
  so_far : l.sums.items ++ runs l.run (drop l.i l.entries) ≡ summed l.entries;
  bound : unsigned_abs l.run.1 ≤ l.i * limit;
}
