use Rattle.term_store.specs.Trees.{AreIn}
use Rattle.substitution_tests.proofs.board.laid_out.Given as goal

abbrev pub invariant-loop-make : goal.invariant-loop-make
invariant-loop-make l = AreIn l.store l.terms.items
