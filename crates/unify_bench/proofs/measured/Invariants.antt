use Rattle.unify_families.specs.Held.{AreHeld}
use Rattle.unify_bench.proofs.measured.Given as goal

abbrev pub invariant-loop : goal.invariant-loop
invariant-loop l = AreHeld l.es
