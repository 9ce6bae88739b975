use Rattle.std.proofs.Common.{◌≡◌, length}
use Rattle.substitution.specs.Bindings.{bound_variables}
use Rattle.substitution.specs.Images.{images_of}
use Rattle.substitution.specs.Weights.{HaveWeights, AreNoted}
use Rattle.substitution.proofs.subst.Subst.in_turn.Given as goal

abbrev pub invariant-loop-place : goal.invariant-loop-place
invariant-loop-place l = record {
  count : length l.weights.items ≡ l.place;
  weights : HaveWeights (images_of l.store l.images) (bound_variables l.images.bindings) l.weights.items;
  noted : AreNoted l.store (images_of l.store l.images) l.noted;
}
