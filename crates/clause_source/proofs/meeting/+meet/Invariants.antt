use Rattle.std.proofs.Common.{◌≡◌, ◌+◌, ◌*◌, ◌≤◌, drop, nat_eq}
use Rattle.clp_model.specs.Trees.{size, total_size, variables_in}
use Rattle.clp_model.specs.Predicates.{distinct_after}
use Rattle.term_store.specs.Trees.{tree_at, trees_at, AreIn}
use Rattle.clause_store.specs.Stored.{atoms_at}
use Rattle.clause_source.proofs.meeting.+meet.Given as goal

abbrev pub decreases-meet : goal.decreases-meet
decreases-meet l = 2 * size (tree_at l.store.now l.t)

abbrev pub decreases-meet_all : goal.decreases-meet_all
decreases-meet_all l = 2 * total_size (trees_at l.store.now l.terms.now) + 1

abbrev pub invariant-meet_all-loop-term : goal.invariant-meet_all-loop-term
invariant-meet_all-loop-term l = record {
  inside : AreIn l.store (drop l.term-index l.terms);
  met : distinct_after nat_eq l.met (variables_in (atoms_at l.store (drop l.term-index l.terms))) ≡ distinct_after nat_eq l.initial.met (variables_in (atoms_at l.store l.terms));
  left : total_size (trees_at l.store (drop l.term-index l.terms)) ≤ total_size (trees_at l.store l.terms);
}
