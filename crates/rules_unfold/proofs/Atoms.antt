-- The predicates of stored atoms.
use Rattle.std.proofs.Common.{◌≡◌, ℕ, ◌+◌, ◌<◌, List, [], ◌∷◌, length, drop, get_or, None, refl, ap, ◌∙◌, sym, add-one}
use Rattle.std.proofs.Math.Seq.{drop-cons}
use Rattle.clp_model.specs.declared.sort.Sort.{Sort}
use Rattle.clp_model.specs.declared.tree.Variable.{Variable}
use Rattle.clp_model.specs.declared.tree.Tree.{Tree, App}
use Rattle.clp_model.specs.declared.predicate.Pred.{Pred}
use Rattle.clp_model.specs.Predicates.{predicate_of}
use Rattle.clp_model.specs.Trees.{mapped, mapped_all, name_of, arguments_of}
use Rattle.clp_model.proofs.Trees.{mapped_app, mapped_var, name_of_app, arguments_of_app}
use Rattle.clp_model.proofs.RenamedTrees.{length_mapped}
use Rattle.term_store.specs.Trees.{variable, trees_at}
use Rattle.clause_store.specs.Stored.{number_of, atom_at, atoms_at}
use Rattle.clause_store.proofs.Counts.{length_trees_at}
use Rattle.map_model.specs.State.{State}
use Rattle.map_model.specs.Rewriting.{or_next}
use Rattle.map_model.specs.Defining.{no_body, atom_broken, body_broken}

pub of_app : (store : List (Tree Variable)) (tree : Tree Variable) (name : List ℕ) (terms : List ℕ) → tree ≡ App name (trees_at store terms)
    → predicate_of (mapped number_of tree) ≡ record { name = name; arity = length terms }
of_app store tree name terms is =
    let ts = mapped_all number_of (trees_at store terms) in
    let with_parts : List ℕ → List (Tree ℕ) → Pred = λ x us. record { name = x; arity = length us } in
    let with_count : ℕ → Pred = λ k. record { name = name; arity = k } in
    ap (λ (t : Tree Variable). predicate_of (mapped number_of t)) is
    ∙ ap predicate_of (mapped_app number_of name (trees_at store terms))
    ∙ ap (λ (x : List ℕ). with_parts x (arguments_of (App name ts))) (name_of_app name ts)
    ∙ ap (with_parts name) (arguments_of_app name ts)
    ∙ ap with_count (length_mapped number_of (trees_at store terms) ∙ length_trees_at store terms)

pub of_var : (tree : Tree Variable) (n : ℕ) (s : Sort) → tree ≡ variable n s → predicate_of (mapped number_of tree) ≡ record { name = []; arity = 0 }
unfolding name_of arguments_of
of_var tree n s is = ap (λ (t : Tree Variable). predicate_of (mapped number_of t)) is ∙ ap predicate_of (mapped_var number_of (record { number = n; sort = s }))

-- the atoms from a place on
pub body_from : (s : State) (p : Pred) (store : List (Tree Variable)) (ts : List ℕ) (i d : ℕ) → i < length ts
    → body_broken s p (atoms_at store (drop i ts)) ≡ or_next (atom_broken s p (predicate_of (atom_at store (get_or ts i d)))) (body_broken s p (atoms_at store (drop (i + 1) ts)))
body_from s p store ts i d within =
    ap (λ (us : List ℕ). body_broken s p (atoms_at store us)) (drop-cons ts i d within)
    ∙ ap (λ (k : ℕ). or_next (atom_broken s p (predicate_of (atom_at store (get_or ts i d)))) (body_broken s p (atoms_at store (drop k ts)))) (sym (add-one i))

pub some_body : (store : List (Tree Variable)) (ts : List ℕ) → (ts ≡ [] → ⊥) → no_body (atoms_at store ts) ≡ None
some_body store [] h = absurd (h refl)
some_body store (t ∷ ts) h = refl
