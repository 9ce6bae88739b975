use Rattle.term_store.specs.Trees.{AreIn}
use Rattle.unify_families.specs.Held.{AreHeld}
use Rattle.unify_families.proofs.families.equate_each.Given as goal

abbrev pub invariant-loop-a : goal.invariant-loop-a
invariant-loop-a l = record { held : AreHeld l.es; are : AreIn l.es.store l.terms }
