use Rattle.std.proofs.Common.{◌≡◌, ◌+◌, ◌≤◌, ◌∷◌, drop, max}
use Rattle.clp_model.specs.Trees.{total_size, greatest_depth}
use Rattle.term_store.specs.Trees.{trees_at, AreIn}
use Rattle.clause_store.proofs.limits.is_large.Given as goal

abbrev pub invariant-loop-atom : goal.invariant-loop-atom
invariant-loop-atom l = record {
  inside : AreIn l.store (drop l.atom-index l.raw.atoms);
  size : l.size + total_size (trees_at l.store (drop l.atom-index l.raw.atoms)) ≡ total_size (trees_at l.store (l.raw.head ∷ l.raw.atoms));
  depth : max l.depth (greatest_depth (trees_at l.store (drop l.atom-index l.raw.atoms))) ≡ greatest_depth (trees_at l.store (l.raw.head ∷ l.raw.atoms));
  small : l.size ≤ 4096;
}
