use Rattle.std.proofs.Common.{take}
use Rattle.term_store.specs.Trees.{Keeps, HaveTrees}
use Rattle.substitution.specs.Weights.{images}
use Rattle.clause_loader.specs.Carried.{all_with_images}
use Rattle.clause_loader.proofs.carrying.carried_terms.Given as goal

abbrev pub invariant-loop-tree : goal.invariant-loop-tree
invariant-loop-tree l = record {
  keeps : Keeps l.fn.store l.store;
  made : HaveTrees l.store l.terms (all_with_images l.sorts (images l.fn.store l.s) (take l.tree-index l.trees));
}
