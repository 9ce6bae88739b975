use Rattle.unify.specs.Pairs.{PairsIn}
use Rattle.unify_tests.proofs.shapes.put_pairs.Given as goal

abbrev pub invariant-loop-left : goal.invariant-loop-left
invariant-loop-left l = PairsIn l.store l.pairs.items
