use Rattle.unify_families.specs.Held.{AreHeld}
use Rattle.unify_families.proofs.steps.chain.Given as goal

abbrev pub invariant-loop-v : goal.invariant-loop-v
invariant-loop-v l = AreHeld l.es
