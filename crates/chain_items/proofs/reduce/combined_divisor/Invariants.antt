use Rattle.std.proofs.Common.{◌≡◌, ◌≤◌, ◌+◌, ◌-◌, length, drop}
use Rattle.linear_model.specs.Forms.{combined}
use Rattle.linear_model.specs.Normal.{joint_gcd}
use Rattle.chain_items.proofs.reduce.combined_divisor.Given as goal

abbrev pub invariant-loop-divisor : goal.invariant-loop-divisor
invariant-loop-divisor l = record {
  first_within : l.i ≤ length l.first;
  second_within : l.j ≤ length l.second;
  so_far : joint_gcd l.divisor (combined l.a (drop l.i l.first) l.b (drop l.j l.second)) ≡ joint_gcd l.start (combined l.a l.first l.b l.second);
}

abbrev pub decreases-loop-divisor : goal.decreases-loop-divisor
decreases-loop-divisor l = length l.first + length l.second - (l.i + l.j)
