-- The predicates that a set of names with numbers of arguments stands for.
use Rattle.std.specs.Prelude.{ℕ, List, map, string_bytes}
use Rattle.std.specs.declared.string.String.{String}
use Rattle.clp_model.specs.declared.predicate.Pred.{Pred}

abbrev pub predicate_at : {A : Type 0} → String A × ℕ → Pred
predicate_at k = record { name = string_bytes k.0; arity = k.1 }

abbrev pub predicates_at : {A : Type 0} → List (String A × ℕ) → List Pred
predicates_at ks = map predicate_at ks
