-- Examples of printed text, predicates and definitions.
use Rattle.std.specs.Prelude.{◌≡◌, [], ◌∷◌, ◌++◌, codes}
use Rattle.clp_model.specs.declared.sort.Sort.TheVariants.{Any}
use Rattle.clp_model.specs.declared.tree.Tree.{Var, App}
use Rattle.clp_model.specs.Clauses.{Clause}
use Rattle.clp_model.specs.Predicates.{initial_predicates}
use Rattle.print_model.specs.Clauses.{clause_text}
use Rattle.map_model.specs.declared.step.Step.TheVariants.{Unfold, Merge}
use Rattle.map_model.specs.Defined.{definitions_of}
use Rattle.worked_examples.specs.Samples.{f, p, q, a, rule, one_goal, fact}

-- the text of p(V1) :- q(V1), with a line feed at the end
abbrev pub PrintedClause : Type 0
PrintedClause = clause_text one_goal ≡ codes "p(V1) :- q(V1)." ++ 10 ∷ []

-- p(V12) :- q(f(V12,a)), p(a).
abbrev pub longer : Clause
longer = rule (App p (Var 12 ∷ [])) (App q (App f (Var 12 ∷ App a [] ∷ []) ∷ []) ∷ App p (App a [] ∷ []) ∷ []) (Any ∷ [])

-- with arguments inside arguments and more than one atom
abbrev pub PrintedLongerClause : Type 0
PrintedLongerClause = clause_text longer ≡ codes "p(V12) :- q(f(V12,a)), p(a)." ++ 10 ∷ []

-- q :- q(a), p(a).
abbrev pub two_q : Clause
two_q = rule (App q []) (App q (App a [] ∷ []) ∷ App p (App a [] ∷ []) ∷ []) []

-- p/1, q/1 and q/0 are met in this order, and each is listed once
abbrev pub PredicatesOnce : Type 0
PredicatesOnce =
    initial_predicates (one_goal ∷ fact ∷ two_q ∷ [])
    ≡ record { name = p; arity = 1 } ∷ record { name = q; arity = 1 } ∷ record { name = q; arity = 0 } ∷ []

-- unfolding and merging add no definition
abbrev pub NoDefinitions : Type 0
NoDefinitions = definitions_of (Merge 1 1 2 ∷ Merge 2 1 3 ∷ Unfold 3 1 ∷ []) ≡ []
