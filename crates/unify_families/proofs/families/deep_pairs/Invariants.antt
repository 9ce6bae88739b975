use Rattle.unify_families.specs.Held.{AreHeld}
use Rattle.unify_families.proofs.families.deep_pairs.Given as goal

abbrev pub invariant-loop-v : goal.invariant-loop-v
invariant-loop-v l = AreHeld l.es
