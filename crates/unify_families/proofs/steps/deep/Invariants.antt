use Rattle.std.proofs.Common.{◌<◌, length}
use Rattle.term_store.specs.Trees.{Keeps}
use Rattle.unify_families.specs.Held.{AreHeld}
use Rattle.unify_families.proofs.steps.deep.Given as goal

abbrev pub invariant-loop : goal.invariant-loop
invariant-loop l = record { held : AreHeld l.es; keeps : Keeps l.fn.es.store l.es.store; within : l.t < length l.es.store }
