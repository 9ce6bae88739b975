use Rattle.std.proofs.Common.{◌+◌, ◌*◌, ◌≤◌, drop, take}
use Rattle.clp_model.specs.Trees.{size, total_size}
use Rattle.term_store.specs.Trees.{tree_at, trees_at, AreIn}
use Rattle.unify.specs.Graphs.{IsTermGraph, Grows, HavePlaces}
use Rattle.unify.proofs.graph.TermGraph.+enter.Given as goal

abbrev pub decreases-enter : goal.decreases-enter
decreases-enter l = 2 * size (tree_at l.store.now l.t)

abbrev pub decreases-enter_all : goal.decreases-enter_all
decreases-enter_all l = 2 * total_size (trees_at l.store.now l.terms.now) + 1

abbrev pub invariant-enter_all-loop-term : goal.invariant-enter_all-loop-term
invariant-enter_all-loop-term l = record {
  graph : IsTermGraph l.store l.self;
  grows : Grows l.fn.self l.self;
  made : HavePlaces l.store l.self l.places (trees_at l.store (take l.term-index l.terms));
  rest : AreIn l.store (drop l.term-index l.terms);
  left : total_size (trees_at l.store (drop l.term-index l.terms)) ≤ total_size (trees_at l.store l.terms);
}
