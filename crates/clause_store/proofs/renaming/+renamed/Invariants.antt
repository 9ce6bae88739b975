use Rattle.std.proofs.Common.{◌+◌, ◌*◌, ◌≤◌, drop, take}
use Rattle.clp_model.specs.Trees.{size, total_size, mapped_all}
use Rattle.term_store.specs.Trees.{tree_at, trees_at, AreIn, Keeps, HaveTrees}
use Rattle.clause_store.specs.Stored.{renumber}
use Rattle.clause_store.proofs.renaming.+renamed.Given as goal

abbrev pub decreases-renamed : goal.decreases-renamed
decreases-renamed l = 2 * size (tree_at l.store.now l.t)

abbrev pub decreases-renamed_all : goal.decreases-renamed_all
decreases-renamed_all l = 2 * total_size (trees_at l.store.now l.terms.now) + 1

abbrev pub invariant-renamed_all-loop-term : goal.invariant-renamed_all-loop-term
invariant-renamed_all-loop-term l = record {
  keeps : Keeps l.fn.store l.store;
  made : HaveTrees l.store l.all (mapped_all (renumber l.met) (trees_at l.fn.store (take l.term-index l.terms)));
  rest : AreIn l.fn.store (drop l.term-index l.terms);
  left : total_size (trees_at l.fn.store (drop l.term-index l.terms)) ≤ total_size (trees_at l.fn.store l.terms);
}
