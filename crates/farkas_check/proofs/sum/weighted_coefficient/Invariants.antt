use Rattle.std.proofs.Common.{◌≡◌, ◌≤◌, ◌*◌, ◌+ℤ◌, drop}
use Rattle.std.specs.Prelude.{unsigned_abs}
use Rattle.linear_model.specs.Normal.{limit}
use Rattle.linear_model.specs.Chain.{multiplier_limit}
use Rattle.linear_model.specs.Certificates as spec
use Rattle.farkas_check.proofs.sum.weighted_coefficient.Given as goal

abbrev pub invariant-loop-i : goal.invariant-loop-i
invariant-loop-i l = record {
  so_far : l.sum +ℤ spec.weighted_coefficient (drop l.i l.rows) (drop l.i l.multipliers) l.variable ≡ spec.weighted_coefficient l.rows l.multipliers l.variable;
  bound : unsigned_abs l.sum ≤ l.i * (limit * multiplier_limit);
}
