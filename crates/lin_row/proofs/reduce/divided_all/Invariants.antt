use Rattle.std.proofs.Common.{◌≡◌, ◌≤◌, ◌++◌, true}
use Rattle.linear_model.specs.Normal.{divided_pairs, divisor_of, pairs_within}
use Rattle.lin_row.proofs.reduce.divided_all.Given as goal

abbrev pub invariant-loop-sum : goal.invariant-loop-sum
invariant-loop-sum g l = record {
  so_far : l.quotients.items ++ divided_pairs (divisor_of l.is_flipped l.divisor) (g.S.Source.rest l.source l.i l.j) ≡ divided_pairs (divisor_of l.is_flipped l.divisor) (g.S.Source.rest l.source 0 0);
  within : pairs_within l.quotients.items ≡ true;
  inline : 4 ≤ l.quotients.capacity;
}

abbrev pub decreases-loop-sum : goal.decreases-loop-sum
decreases-loop-sum g l = g.S.Source.steps l.source l.i l.j
