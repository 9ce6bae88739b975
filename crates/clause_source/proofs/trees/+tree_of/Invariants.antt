use Rattle.std.proofs.Common.{◌≡◌, ◌+◌, ◌*◌, ◌≤◌, drop, take}
use Rattle.clp_model.specs.Trees.{size, total_size, mapped_all}
use Rattle.clp_model.specs.Canonical.{place_in}
use Rattle.term_store.specs.Trees.{tree_at, trees_at, AreIn}
use Rattle.clause_store.specs.Stored.{atoms_at}
use Rattle.clause_source.proofs.trees.+tree_of.Given as goal

abbrev pub decreases-tree_of : goal.decreases-tree_of
decreases-tree_of l = 2 * size (tree_at l.store.now l.t)

abbrev pub decreases-trees_of : goal.decreases-trees_of
decreases-trees_of l = 2 * total_size (trees_at l.store.now l.terms.now) + 1

abbrev pub invariant-trees_of-loop-term : goal.invariant-trees_of-loop-term
invariant-trees_of-loop-term l = record {
  made : l.trees ≡ mapped_all (place_in l.met) (atoms_at l.store (take l.term-index l.terms));
  rest : AreIn l.store (drop l.term-index l.terms);
  left : total_size (trees_at l.store (drop l.term-index l.terms)) ≤ total_size (trees_at l.store l.terms);
}
