-- Printed text, predicates and definitions: they compute, once the trees are seen by their arguments.
use Rattle.std.proofs.Common.{◌≡◌, ℕ, refl, ap, List, [], ◌∷◌}
use Rattle.std.specs.Fmt.{digits}
use Rattle.clp_model.specs.declared.predicate.Pred.{Pred}
use Rattle.clp_model.specs.Predicates.{program_predicates, distinct_after, same_predicate}
use Rattle.clp_model.proofs.Trees.{name_of_app, arguments_of_app}
use Rattle.print_model.specs.Names.{predicate_text}
use Rattle.print_model.specs.Clauses.{clause_text}
use Rattle.print_model.proofs.Applications.{texts_app, texts_var, atom_app}
use Rattle.worked_examples.specs.Samples.{p, q, one_goal, fact}
use Rattle.worked_examples.specs.Printed.{two_q, PrintedClause, PrintedLongerClause, PredicatesOnce, NoDefinitions}

pub printed_clause : PrintedClause
unfolding clause_text predicate_text digits
printed_clause = simp (atom_app, texts_var)

pub printed_longer_clause : PrintedLongerClause
unfolding clause_text predicate_text digits
printed_longer_clause = simp (atom_app, texts_app, texts_var)

-- a predicate
abbrev pred : List ℕ → ℕ → Pred
pred name arity = record { name = name; arity = arity }

all_predicates : program_predicates (one_goal ∷ fact ∷ two_q ∷ []) ≡ pred p 1 ∷ pred q 1 ∷ pred q 1 ∷ pred q 0 ∷ pred q 1 ∷ pred p 1 ∷ []
all_predicates = simp (name_of_app, arguments_of_app) refl

pub predicates_once : PredicatesOnce
predicates_once = ap (distinct_after same_predicate []) all_predicates

pub no_definitions : NoDefinitions
no_definitions = refl
