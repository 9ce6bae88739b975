use Rattle.term_store.specs.Trees.{AreIn}
use Rattle.unify_tests.proofs.shapes.put_sides.Given as goal

abbrev pub invariant-loop-left : goal.invariant-loop-left
invariant-loop-left l = record { are : AreIn l.store l.lefts.items; also : AreIn l.store l.rights.items }
