use Rattle.substitution.specs.Weights.{IsOf}
use Rattle.unify_tests.proofs.tables.all_become.Given as goal

abbrev pub invariant-loop-image : goal.invariant-loop-image
invariant-loop-image l = IsOf l.store l.s
