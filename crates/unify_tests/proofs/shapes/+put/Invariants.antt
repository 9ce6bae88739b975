use Rattle.term_store.specs.Trees.{AreIn, Keeps}
use Rattle.unify_tests.proofs.shapes.+put.Given as goal

abbrev pub invariant-put_all-loop-shape : goal.invariant-put_all-loop-shape
invariant-put_all-loop-shape l = record { keeps : Keeps l.fn.store l.store; are : AreIn l.store l.terms.items }
