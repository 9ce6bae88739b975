use Rattle.std.proofs.Common.{◌≡◌, ◌+◌, ◌∷◌, drop}
use Rattle.clp_model.specs.Trees.{total_size}
use Rattle.term_store.specs.Trees.{trees_at, AreIn}
use Rattle.clause_store.proofs.clause.terms_size.Given as goal

abbrev pub invariant-loop-atom : goal.invariant-loop-atom
invariant-loop-atom l = record {
  inside : AreIn l.store (drop l.atom-index l.c.atoms);
  size : l.size + total_size (trees_at l.store (drop l.atom-index l.c.atoms)) ≡ total_size (trees_at l.store (l.c.head ∷ l.c.atoms));
}
