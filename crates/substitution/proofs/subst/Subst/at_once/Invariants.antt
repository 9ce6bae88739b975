use Rattle.std.proofs.Common.{◌≡◌, length}
use Rattle.substitution.specs.Bindings.{bound_variables}
use Rattle.substitution.specs.Images.{images_of}
use Rattle.substitution.specs.Weights.{HaveWeights}
use Rattle.substitution.proofs.subst.Subst.at_once.Given as goal

abbrev pub invariant-loop-place : goal.invariant-loop-place
invariant-loop-place l = record {
  count : length l.weights.items ≡ l.place;
  weights : HaveWeights (images_of l.store l.images) (bound_variables l.images.bindings) l.weights.items;
}
