use Rattle.std.proofs.Common.{◌<◌, length}
use Rattle.unify_families.specs.Held.{AreHeld}
use Rattle.unify_families.proofs.families.again.Given as goal

abbrev pub invariant-loop : goal.invariant-loop
invariant-loop l = record { held : AreHeld l.es; left : l.x < length l.es.store; right : l.t < length l.es.store }
