use Rattle.term_store.specs.Trees.{AreIn, Keeps}
use Rattle.unify_families.specs.Held.{AreHeld}
use Rattle.unify_families.proofs.steps.wide.Given as goal

abbrev pub invariant-loop : goal.invariant-loop
invariant-loop l = record { held : AreHeld l.es; keeps : Keeps l.fn.es.store l.es.store; are : AreIn l.es.store l.args.items }
