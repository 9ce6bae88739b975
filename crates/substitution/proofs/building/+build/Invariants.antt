use Rattle.std.proofs.Common.{◌+◌, ◌*◌, take}
use Rattle.clp_model.specs.Trees.{size, total_size, variables_in}
use Rattle.term_store.specs.Trees.{tree_at, trees_at, Keeps, HaveTrees}
use Rattle.unify_model.specs.Substituting.{substituted_all}
use Rattle.substitution.specs.Bindings.{variable_of, bound_variables, height_of, height, greatest_height}
use Rattle.substitution.specs.Images.{images_of}
use Rattle.substitution.specs.Made.{AreMade, capped}
use Rattle.substitution.proofs.building.+build.Given as goal

abbrev pub decreases-build_variable : goal.decreases-build_variable
decreases-build_variable l = 8200 * height_of (bound_variables l.images.now.bindings) (variable_of l.number l.sort) + 1

abbrev pub decreases-build : goal.decreases-build
decreases-build l = 8200 * height (bound_variables l.images.now.bindings) (tree_at l.store.now l.t) + 2 * capped (size (tree_at l.store.now l.t))

abbrev pub decreases-build_all : goal.decreases-build_all
decreases-build_all l = 8200 * greatest_height (bound_variables l.images.now.bindings) (variables_in (trees_at l.store.now l.terms.now)) + (2 * total_size (trees_at l.store.now l.terms.now) + 1)

abbrev pub invariant-build_all-loop-term : goal.invariant-build_all-loop-term
invariant-build_all-loop-term l = record {
  keeps : Keeps l.fn.store l.store;
  value : HaveTrees l.store l.all (substituted_all (images_of l.fn.store l.images) (trees_at l.fn.store (take l.term-index l.terms)));
  made : AreMade l.store l.images l.made;
}
