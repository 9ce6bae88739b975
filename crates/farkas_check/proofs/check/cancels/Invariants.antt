use Rattle.std.proofs.Common.{◌≡◌, ℕ, ◌<◌, ◌≤◌, ◌-◌, ◌^◌, true}
use Rattle.farkas_check.specs.Checks.{cancels_at}
use Rattle.farkas_check.proofs.check.cancels.Given as goal

abbrev pub invariant-loop-variable : goal.invariant-loop-variable
invariant-loop-variable l = record {
  within : l.from ≤ 2 ^ 32;
  passed : (w : ℕ) → w < l.from → cancels_at l.rows l.multipliers l.k l.pairs w ≡ true;
}

abbrev pub decreases-loop-variable : goal.decreases-loop-variable
decreases-loop-variable l = 2 ^ 32 - l.from
