use Rattle.std.proofs.Common.{◌+◌, ◌*◌, ◌≤◌, drop, take}
use Rattle.clp_model.specs.Trees.{size, total_size, variables_in}
use Rattle.term_store.specs.Trees.{tree_at, trees_at, AreIn}
use Rattle.clause_store.specs.Stored.{atoms_at}
use Rattle.clause_fold.specs.Marks.{Adds}
use Rattle.clause_fold.proofs.marks.Marks.+add_term.Given as goal

abbrev pub decreases-add_term : goal.decreases-add_term
decreases-add_term l = 2 * size (tree_at l.store.now l.t)

abbrev pub decreases-add_terms : goal.decreases-add_terms
decreases-add_terms l = 2 * total_size (trees_at l.store.now l.terms.now) + 1

abbrev pub invariant-add_terms-loop-term : goal.invariant-add_terms-loop-term
invariant-add_terms-loop-term l = record {
  inside : AreIn l.store (drop l.term-index l.terms);
  added : Adds l.initial.self l.self (variables_in (atoms_at l.store (take l.term-index l.terms)));
  left : total_size (trees_at l.store (drop l.term-index l.terms)) ≤ total_size (trees_at l.store l.terms);
}
