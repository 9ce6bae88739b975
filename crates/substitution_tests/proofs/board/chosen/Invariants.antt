use Rattle.term_store.specs.Trees.{AreIn}
use Rattle.substitution_tests.proofs.board.chosen.Given as goal

abbrev pub invariant-loop-place : goal.invariant-loop-place
invariant-loop-place l = AreIn l.store l.all.items
