use Rattle.std.proofs.Common.{◌+◌, ◌*◌}
use Rattle.clp_model.specs.Trees.{size, total_size, variables_in}
use Rattle.term_store.specs.Trees.{tree_at, trees_at}
use Rattle.substitution.specs.Found.{IsMet, EachIs}
use Rattle.substitution.proofs.patterns.+meet.Given as goal

abbrev pub decreases-meet : goal.decreases-meet
decreases-meet l = 2 * size (tree_at l.store.now l.pattern)

abbrev pub decreases-meet_all : goal.decreases-meet_all
decreases-meet_all l = 2 * total_size (trees_at l.store.now l.patterns.now) + 1

abbrev pub invariant-meet_all-loop-i : goal.invariant-meet_all-loop-i
invariant-meet_all-loop-i l = IsMet l.store (variables_in (trees_at l.store l.patterns)) l.fn.found l.found (EachIs l.store l.patterns l.targets l.i)
