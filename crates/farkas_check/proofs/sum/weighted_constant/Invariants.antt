use Rattle.std.proofs.Common.{◌≡◌, ◌≤◌, ◌*◌, ◌+ℤ◌, drop}
use Rattle.std.specs.Prelude.{unsigned_abs}
use Rattle.linear_model.specs.Normal.{limit}
use Rattle.linear_model.specs.Chain.{multiplier_limit}
use Rattle.linear_model.specs.Certificates as spec
use Rattle.farkas_check.proofs.sum.weighted_constant.Given as goal

abbrev pub invariant-loop-i : goal.invariant-loop-i
invariant-loop-i l = record {
  so_far : l.sum +ℤ spec.weighted_constant (drop l.i l.rows) (drop l.i l.multipliers) ≡ spec.weighted_constant l.rows l.multipliers;
  bound : unsigned_abs l.sum ≤ l.i * (limit * multiplier_limit);
}
