use Rattle.std.proofs.Common.{◌≡◌, drop}
use Rattle.linear_model.specs.Forms.{coefficient, IsRising}
use Rattle.lin_row.proofs.truth.coefficient_in.Given as goal

abbrev pub invariant-loop-p : goal.invariant-loop-p
invariant-loop-p l = record {
  rising : IsRising (drop l.p-index l.pairs);
  same : coefficient (drop l.p-index l.pairs) l.variable ≡ coefficient l.pairs l.variable;
}
