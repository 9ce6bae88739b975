-- Predicates of atoms.
use Rattle.std.specs.Prelude.{ℕ, List}
use Rattle.clp_model.specs.declared.predicate.Pred.{Pred}

abbrev pub predicate : List ℕ → ℕ → Pred
predicate name arity = record { name = name; arity = arity }
