-- Predicates that are collected one after another.
use Rattle.std.proofs.Common.{◌≡◌, ℕ, ◌+◌, ◌<◌, List, [], ◌∷◌, ◌++◌, length, drop, get_or, map, refl, ap, ◌∙◌}
use Rattle.clp_model.specs.declared.tree.Tree.{Tree, App}
use Rattle.clp_model.specs.declared.predicate.Pred.{Pred}
use Rattle.clause_store.specs.declared.source.SourceClause.{SourceClause}
use Rattle.clp_model.specs.Trees.{arguments_of}
use Rattle.clause_store.specs.Source.{meaning_of}
use Rattle.clp_model.specs.Predicates.{predicate_of, clause_predicates, program_predicates, same_predicate, with_element, distinct_after}
use Rattle.clp_model.proofs.Trees.{arguments_of_app}
use Rattle.clause_loader.proofs.Items.{drop_more}

pub few_arguments : (t : Tree ℕ) (name : List ℕ) (ts : List (Tree ℕ)) → t ≡ App name ts → length (arguments_of t) ≡ length ts
few_arguments t name ts is = ap (λ (u : Tree ℕ). length (arguments_of u)) is ∙ ap length (arguments_of_app name ts)

pub distinct_append : (found xs ys : List Pred) → distinct_after same_predicate found (xs ++ ys) ≡ distinct_after same_predicate (distinct_after same_predicate found xs) ys
distinct_append found [] ys = refl
distinct_append found (x ∷ xs) ys = distinct_append (with_element same_predicate found x) xs ys

-- one more atom
pub atom_noted : (found : List Pred) (atoms : List (Tree ℕ)) (i : ℕ) (atom : Tree ℕ) → i < length atoms → atom ≡ get_or atoms i atom
    → distinct_after same_predicate found (map predicate_of (drop i atoms)) ≡ distinct_after same_predicate (with_element same_predicate found (predicate_of atom)) (map predicate_of (drop (i + 1) atoms))
atom_noted found atoms i atom within item = ap (λ v. distinct_after same_predicate found (map predicate_of v)) (drop_more atoms i atom within item)

-- one more clause
pub clause_noted : (found : List Pred) (source : List SourceClause) (i : ℕ) (s : SourceClause) → i < length source → s ≡ get_or source i s
    → distinct_after same_predicate found (program_predicates (map meaning_of (drop i source)))
    ≡ distinct_after same_predicate (distinct_after same_predicate found (clause_predicates (meaning_of s))) (program_predicates (map meaning_of (drop (i + 1) source)))
clause_noted found source i s within item =
    ap (λ v. distinct_after same_predicate found (program_predicates (map meaning_of v))) (drop_more source i s within item)
    ∙ distinct_append found (clause_predicates (meaning_of s)) (program_predicates (map meaning_of (drop (i + 1) source)))
