use Rattle.std.proofs.Common.{◌+◌, ◌*◌, take, map}
use Rattle.clp_model.specs.Trees.{size, total_size, variables_in}
use Rattle.term_store.specs.Trees.{tree_at, trees_at}
use Rattle.clause_store.specs.Stored.{atoms_at}
use Rattle.clause_fold.specs.Marks.{Adds}
use Rattle.clause_fold.specs.Images.{image_by}
use Rattle.clause_fold.proofs.internal.+add_images.Given as goal

abbrev pub decreases-add_images : goal.decreases-add_images
decreases-add_images l = 2 * size (tree_at l.store.now l.t)

abbrev pub decreases-add_all_images : goal.decreases-add_all_images
decreases-add_all_images l = 2 * total_size (trees_at l.store.now l.terms.now) + 1

abbrev pub invariant-add_all_images-loop-term : goal.invariant-add_all_images-loop-term
invariant-add_all_images-loop-term l = Adds l.initial.marks l.marks (variables_in (map (image_by l.scratch l.images) (variables_in (atoms_at l.store (take l.term-index l.terms)))))
