use Rattle.std.proofs.Common.{◌≡◌, ◌≤◌, ◌+◌, ◌-◌, ◌++◌, length, drop, pos, true}
use Rattle.linear_model.specs.Forms.{combined}
use Rattle.linear_model.specs.Normal.{divided_pairs}
use Rattle.chain_items.specs.Sparse.{at_most}
use Rattle.chain_items.proofs.reduce.combined_quotients.Given as goal

abbrev pub invariant-loop-next : goal.invariant-loop-next
invariant-loop-next l = record {
  first_within : l.i ≤ length l.first;
  second_within : l.j ≤ length l.second;
  so_far : l.quotients.items ++ divided_pairs (pos l.divisor) (combined l.a (drop l.i l.first) l.b (drop l.j l.second)) ≡ divided_pairs (pos l.divisor) (combined l.a l.first l.b l.second);
  within : at_most l.bound l.quotients.items ≡ true;
}

abbrev pub decreases-loop-next : goal.decreases-loop-next
decreases-loop-next l = length l.first + length l.second - (l.i + l.j)
