use Rattle.std.proofs.Common.{take}
use Rattle.term_store.specs.Trees.{trees_at, Keeps, HaveTrees}
use Rattle.unify_model.specs.Substituting.{substituted_all}
use Rattle.substitution.specs.Weights.{images}
use Rattle.clause_resolvent.proofs.applying.applied_all.Given as goal

abbrev pub invariant-loop-term : goal.invariant-loop-term
invariant-loop-term l = record {
  keeps : Keeps l.fn.store l.store;
  made : HaveTrees l.store l.all (substituted_all (images l.fn.store l.s) (trees_at l.fn.store (take l.term-index l.terms)));
}
