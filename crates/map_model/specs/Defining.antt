-- define H :- B: a clause becomes the definition of a fresh predicate, and joins the program.
use Rattle.std.specs.Prelude.{ℕ, ◌||◌, List, [], ◌∷◌, map, Option, Some, None, option_map, Result, Ok, Err, false, if◌then◌else◌}
use Rattle.clp_model.specs.declared.predicate.Pred.{Pred}
use Rattle.clp_model.specs.declared.tree.Tree.{Tree}
use Rattle.clp_model.specs.Clauses.{Clause}
use Rattle.clp_model.specs.Predicates.{predicate_of, same_predicate}
use Rattle.clause_model.specs.Canonical as clauses
use Rattle.clause_model.specs.Load.{load_one}
use Rattle.clause_model.specs.Source.{source_of}
use Rattle.clause_store.specs.declared.source.SourceClause.{SourceClause}
use Rattle.clause_store.specs.Source.{meaning_of}
use Rattle.fold_model.specs.Definitions.{wrong_argument, loose_variable}
use Rattle.map_model.specs.declared.step.Step.TheVariants.{Define}
use Rattle.map_model.specs.declared.refusal.Refusal.{Refusal}
use Rattle.map_model.specs.declared.refusal.Refusal.TheVariants.{NotFresh, HeadNotVariables, EmptyDefinition, RecursiveDefinition, UnknownPredicate, LooseVariable}
use Rattle.map_model.specs.State.{State, is_among, defined_of}
use Rattle.map_model.specs.Rewriting.{Rewriting, refusal_of, rewritten, unless_broken, or_next}

-- ---- the conditions

-- the predicate occurs in the program, or has a definition
abbrev pub not_fresh : State → Pred → Option Refusal
not_fresh s p = if is_among s.initials p || is_among (defined_of s) p then Some (NotFresh p) else None

-- an argument of the head is no variable, or is one that stands before
abbrev pub head_broken : Clause → Option Refusal
head_broken c = option_map HeadNotVariables (wrong_argument c)

-- there is no atom
abbrev pub no_body : List (Tree ℕ) → Option Refusal
no_body [] = Some EmptyDefinition
no_body (t ∷ ts) = None

-- the predicate q of an atom is that of the head, p, or has a definition; or it does not occur in the program
abbrev pub atom_broken : State → Pred → Pred → Option Refusal
atom_broken s p q =
    if same_predicate p q || is_among (defined_of s) q then Some (RecursiveDefinition q)
    else (if is_among s.initials q then None else Some (UnknownPredicate q))

-- the first atom whose predicate may not stand in the body
abbrev pub body_broken : State → Pred → List (Tree ℕ) → Option Refusal
body_broken s p [] = None
body_broken s p (t ∷ ts) = or_next (atom_broken s p (predicate_of t)) (body_broken s p ts)

-- a variable is in the head alone, or in rows alone
abbrev pub loose_broken : Clause → Option Refusal
loose_broken c = option_map LooseVariable (loose_variable c)

-- the first broken condition on the loaded clause
abbrev pub definition_broken : State → Clause → Option Refusal
definition_broken s c =
    or_next (not_fresh s (predicate_of c.head))
    (or_next (head_broken c)
    (or_next (no_body c.body)
    (or_next (body_broken s (predicate_of c.head) c.body) (loose_broken c))))

-- ---- the step

-- a clause as a source clause
abbrev pub as_source : Clause → SourceClause
as_source c = record { head = c.head; equations = c.equations; rows = c.rows; atoms = c.body; sorts = c.sorts }

-- the clause joins the program, unmarked, as the definition of its predicate
abbrev pub definition : Clause → Rewriting
definition c = record {
  dead = [];
  made = record { clause = c; mark = false; parents = [] } ∷ [];
  defines = Some (predicate_of c.head);
  step = Define (as_source (source_of c));
}

-- the state after the definition of a clause that is loaded, None where nothing solves its equations
abbrev pub define_loaded : State → Result (Option Clause) clauses.Refusal → Result State Refusal
define_loaded s (Err refusal) = Err (refusal_of refusal)
define_loaded s (Ok None) = Err EmptyDefinition
define_loaded s (Ok (Some c)) = unless_broken (definition_broken s c) (rewritten s (definition c))

-- the state after `define H :- B`, or its first broken condition
abbrev pub define_after : State → SourceClause → Result State Refusal
define_after s source = define_loaded s (load_one (meaning_of source))
