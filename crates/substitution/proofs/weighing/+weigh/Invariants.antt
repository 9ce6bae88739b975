use Rattle.std.proofs.Common.{◌+◌, ◌*◌, take}
use Rattle.clp_model.specs.Trees.{size, total_size, greatest_depth}
use Rattle.term_store.specs.Trees.{tree_at, trees_at}
use Rattle.unify_model.specs.Substituting.{substituted_all}
use Rattle.substitution.specs.Images.{images_of}
use Rattle.substitution.specs.Weights.{AreMeasures, AreNoted}
use Rattle.substitution.proofs.weighing.+weigh.Given as goal

abbrev pub decreases-weigh : goal.decreases-weigh
decreases-weigh l = 2 * size (tree_at l.store.now l.t)

abbrev pub decreases-weigh_all : goal.decreases-weigh_all
decreases-weigh_all l = 2 * total_size (trees_at l.store.now l.terms.now) + 1

abbrev pub invariant-weigh_all-loop-term : goal.invariant-weigh_all-loop-term
invariant-weigh_all-loop-term l = record {
  all : AreMeasures l.all (total_size (substituted_all (images_of l.store l.images) (trees_at l.store (take l.term-index l.terms)))) (greatest_depth (substituted_all (images_of l.store l.images) (trees_at l.store (take l.term-index l.terms))));
  noted : AreNoted l.store (images_of l.store l.images) l.noted;
}
