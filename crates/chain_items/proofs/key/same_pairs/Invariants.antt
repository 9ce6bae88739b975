use Rattle.std.proofs.Common.{◌≡◌, ◌≤◌, ◌-◌, length, drop}
use Rattle.linear_model.specs.Normal.{divided_pairs, pairs_eq}
use Rattle.chain_items.proofs.key.same_pairs.Given as goal

abbrev pub invariant-loop-p : goal.invariant-loop-p
invariant-loop-p l = record {
  first_within : l.i ≤ length l.pairs;
  second_within : l.i ≤ length l.others;
  so_far : pairs_eq (divided_pairs l.divisor (drop l.i l.pairs)) (divided_pairs l.other_divisor (drop l.i l.others)) ≡ pairs_eq (divided_pairs l.divisor l.pairs) (divided_pairs l.other_divisor l.others);
}

abbrev pub decreases-loop-p : goal.decreases-loop-p
decreases-loop-p l = length l.pairs - l.i
