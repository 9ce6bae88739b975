use Rattle.std.proofs.Common.{◌≡◌, drop}
use Rattle.linear_model.specs.Forms.{coefficient, IsRising}
use Rattle.farkas_check.proofs.sum.coefficient.Given as goal

abbrev pub invariant-loop-p : goal.invariant-loop-p
invariant-loop-p l = record {
  value : coefficient (drop l.p-index l.pairs) l.variable ≡ coefficient l.pairs l.variable;
  rising : IsRising (drop l.p-index l.pairs);
}
