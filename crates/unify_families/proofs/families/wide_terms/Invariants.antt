use Rattle.term_store.specs.Trees.{AreIn}
use Rattle.unify_families.specs.Held.{AreHeld}
use Rattle.unify_families.proofs.families.wide_terms.Given as goal

abbrev pub invariant-loop : goal.invariant-loop
invariant-loop l = record { held : AreHeld l.es; are : AreIn l.es.store l.terms.items }
