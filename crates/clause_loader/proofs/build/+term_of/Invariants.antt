use Rattle.std.proofs.Common.{take}
use Rattle.term_store.specs.Trees.{Keeps, HaveTrees}
use Rattle.clause_loader.specs.Carried.{typed_all}
use Rattle.clause_loader.proofs.build.+term_of.Given as goal

abbrev pub invariant-terms_of-loop-tree : goal.invariant-terms_of-loop-tree
invariant-terms_of-loop-tree l = record {
  keeps : Keeps l.fn.store l.store;
  made : HaveTrees l.store l.terms.items (typed_all l.sorts (take l.tree-index l.trees));
}
