use Rattle.std.proofs.Common.{◌+◌, ◌*◌, take}
use Rattle.clp_model.specs.Trees.{size, total_size, mapped_all}
use Rattle.term_store.specs.Trees.{tree_at, trees_at, Keeps, HaveTrees}
use Rattle.clause_resolvent.specs.Raised.{raise}
use Rattle.clause_resolvent.proofs.raising.+raised.Given as goal

abbrev pub decreases-raised : goal.decreases-raised
decreases-raised l = 2 * size (tree_at l.from.now l.t)

abbrev pub decreases-raised_all : goal.decreases-raised_all
decreases-raised_all l = 2 * total_size (trees_at l.from.now l.terms.now) + 1

abbrev pub invariant-raised_all-loop-term : goal.invariant-raised_all-loop-term
invariant-raised_all-loop-term l = record {
  keeps : Keeps l.fn.to l.to;
  made : HaveTrees l.to l.all (mapped_all (raise l.by) (trees_at l.from (take l.term-index l.terms)));
}
