use Rattle.std.proofs.Common.{◌+◌, ◌*◌, take}
use Rattle.clp_model.specs.Trees.{size, total_size}
use Rattle.unify_model.specs.Substituting.{substituted_all}
use Rattle.term_store.specs.Trees.{tree_at, trees_at, Keeps, HaveTrees}
use Rattle.clause_fold.specs.Images.{image_of}
use Rattle.clause_fold.proofs.carrying.+with_images.Given as goal

abbrev pub decreases-with_images : goal.decreases-with_images
decreases-with_images l = 2 * size (tree_at l.store.now l.t)

abbrev pub decreases-all_with_images : goal.decreases-all_with_images
decreases-all_with_images l = 2 * total_size (trees_at l.store.now l.terms.now) + 1

abbrev pub invariant-all_with_images-loop-term : goal.invariant-all_with_images-loop-term
invariant-all_with_images-loop-term l = record {
  keeps : Keeps l.fn.scratch l.scratch;
  made : HaveTrees l.scratch l.all (substituted_all (image_of l.fn.scratch l.images) (trees_at l.store (take l.term-index l.terms)));
}
