use Rattle.std.proofs.Common.{◌≡◌, ◌<◌, length}
use Rattle.term_store.specs.Trees.{AreIn}
use Rattle.unify_families.specs.Held.{AreHeld}
use Rattle.unify_families.proofs.families.equate_all.Given as goal

abbrev pub invariant-loop-b : goal.invariant-loop-b
invariant-loop-b l = record { held : AreHeld l.es; are : AreIn l.es.store l.terms; left : l.a < length l.es.store; same : l.es.store ≡ l.fn.es.store }
