use Rattle.std.proofs.Common.{◌≡◌, length, take, drop}
use Rattle.linear_model.specs.Changes.{opposite_pairs}
use Rattle.lin_row.proofs.change.take_opposites.Given as goal

abbrev pub invariant-loop-i : goal.invariant-loop-i
invariant-loop-i l = record {
  same_length : length l.pairs ≡ length l.initial.pairs;
  turned : take l.i l.pairs ≡ opposite_pairs (take l.i l.initial.pairs);
  rest : drop l.i l.pairs ≡ drop l.i l.initial.pairs;
}
