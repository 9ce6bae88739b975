-- The predicates of atoms, clauses and programs.
use Rattle.std.specs.Prelude.{Bool, ◌&&◌, nat_eq, List, [], ◌∷◌, ◌++◌, map, length, if◌then◌else◌}
use Rattle.std.specs.List.{list_any}
use Rattle.std.specs.Str.{bytes_eq}
use Rattle.clp_model.specs.declared.tree.Tree.{Tree}
use Rattle.clp_model.specs.declared.predicate.Pred.{Pred}
use Rattle.clp_model.specs.Trees.{name_of, arguments_of}
use Rattle.clp_model.specs.Values.{GroundAtom, count_of}
use Rattle.clp_model.specs.Clauses.{Clause}

abbrev pub predicate_of : {V : Type 0} → Tree V → Pred
predicate_of atom = record { name = name_of atom; arity = length (arguments_of atom) }

abbrev pub ground_predicate : GroundAtom → Pred
ground_predicate a = record { name = a.name; arity = count_of a.args }

-- the predicates of the head and of the body atoms, in order
abbrev pub clause_predicates : Clause → List Pred
clause_predicates c = predicate_of c.head ∷ map predicate_of c.body

abbrev pub program_predicates : List Clause → List Pred
program_predicates [] = []
program_predicates (c ∷ cs) = clause_predicates c ++ program_predicates cs

abbrev pub same_predicate : Pred → Pred → Bool
same_predicate p q = bytes_eq p.name q.name && nat_eq p.arity q.arity

-- an element put last, unless it is there
abbrev pub with_element : {A : Type 0} → (A → A → Bool) → List A → A → List A
with_element same found x = if list_any (λ y. same y x) found then found else found ++ x ∷ []

-- each element once, by first occurrence, after those found before
abbrev pub distinct_after : {A : Type 0} → (A → A → Bool) → List A → List A → List A
distinct_after same found [] = found
distinct_after same found (x ∷ xs) = distinct_after same (with_element same found x) xs

-- the predicates that occur in a program, each once, by first occurrence
abbrev pub initial_predicates : List Clause → List Pred
initial_predicates program = distinct_after same_predicate [] (program_predicates program)
