-- Atoms whose predicates differ do not unify.
use Rattle.std.proofs.Common.{◌≡◌, ◌↔◌, ℕ, suc, List, [], ◌∷◌, length, Bool, true, false, Option, Some, None, refl, ap, ◌∙◌, sym, IsTrue}
use Rattle.std.specs.Prelude.{if◌then◌else◌}
use Rattle.std.specs.Str.{bytes_eq}
use Rattle.std.proofs.lemmas.Slice.Eq.{bytes_eq-Decides}
use Rattle.clp_model.specs.declared.predicate.Pred.{Pred}
use Rattle.clp_model.specs.declared.tree.Variable.{Variable}
use Rattle.clp_model.specs.declared.tree.Tree.{Tree, App}
use Rattle.clp_model.specs.Trees.{IsApplication, name_of, arguments_of, mapped, mapped_all}
use Rattle.clp_model.specs.Predicates.{predicate_of}
use Rattle.clp_model.proofs.Trees.{application_is, name_of_app, arguments_of_app, mapped_app}
use Rattle.clp_model.proofs.RenamedTrees.{length_mapped}
use Rattle.unify_model.specs.Substituting.{Binding}
use Rattle.unify_model.specs.Equations.{Equation}
use Rattle.unify_model.specs.Unifying.{joined, then_by, apart, all_apart, list_apart, solved_all, most_general_unifier}
use Rattle.unify_laws.proofs.Applications.{apart_app}
use Rattle.clause_resolvent.specs.Atoms.{predicate}
use Rattle.clause_resolvent.specs.Raised.{raise}

pub predicate_is : (tree : Tree Variable) (name : List ℕ) (ts : List (Tree Variable)) (count : ℕ) → tree ≡ App name ts → count ≡ length ts → predicate_of tree ≡ predicate name count
predicate_is tree name ts count is e =
    ap predicate_of is
    ∙ (ap (λ (n : List ℕ). predicate n (length (arguments_of (App name ts)))) (name_of_app name ts) ∙ (ap (λ (us : List (Tree Variable)). predicate name (length us)) (arguments_of_app name ts) ∙ ap (predicate name) (sym e)))

-- the predicate of the one is that of the other exactly where the other has it
pub same_exactly : (r : Bool) (a b : Tree Variable) (p : Pred) → predicate_of a ≡ p → IsApplication b → IsTrue r ↔ (IsApplication b × (predicate_of b ≡ p)) → IsTrue r ↔ (predicate_of a ≡ predicate_of b)
same_exactly r a b p e h k = ((λ t. e ∙ sym (k.0 t).1), (λ s. k.1 (h, sym s ∙ e)))

-- ---- what does not unify
different_lengths : (ts us : List (Tree Variable)) → (length ts ≡ length us → ⊥) → list_apart ts us ≡ None
different_lengths [] [] h = absurd (h refl)
different_lengths [] (u ∷ us) h = refl
different_lengths (t ∷ ts) [] h = refl
different_lengths (t ∷ ts) (u ∷ us) h =
    ap (joined (apart t u)) (different_lengths ts us (λ e. h (ap suc e))) ∙ none_after (apart t u)
  where
    none_after : (o : Option (List Binding)) → joined o None ≡ None
    none_after None = refl
    none_after (Some bs) = refl

apart_differs : (f g : List ℕ) (ts us : List (Tree Variable)) → (predicate f (length ts) ≡ predicate g (length us) → ⊥) → apart (App f ts) (App g us) ≡ None
apart_differs f g ts us h = apart_app f g ts us ∙ by (bytes_eq f g) refl
  where
    by : (b : Bool) → bytes_eq f g ≡ b → (if b then list_apart ts us else None) ≡ None
    by true e =
        let names = (bytes_eq-Decides f g).0 e in
        different_lengths ts us (λ l. h (ap (λ (n : List ℕ). predicate n (length ts)) names ∙ ap (predicate g) l))
    by false e = refl

differ : (t u : Tree Variable) → IsApplication t → IsApplication u → (predicate_of t ≡ predicate_of u → ⊥) → (k : ℕ) → apart t (mapped (raise k) u) ≡ None
differ t u a b h k =
    let ts = arguments_of t in
    let us = arguments_of u in
    let raised : mapped (raise k) u ≡ App (name_of u) (mapped_all (raise k) us) = ap (mapped (raise k)) (application_is u b) ∙ mapped_app (raise k) (name_of u) us in
    ap (λ (x : Tree Variable). apart x (mapped (raise k) u)) (application_is t a)
    ∙ ap (apart (App (name_of t) ts)) raised
    ∙ apart_differs (name_of t) (name_of u) ts (mapped_all (raise k) us) (λ e. h (e ∙ ap (predicate (name_of u)) (length_mapped (raise k) us)))

pub none_unify : (t u : Tree Variable) (es : List Equation) (k : ℕ) → IsApplication t → IsApplication u → (predicate_of t ≡ predicate_of u → ⊥) → es ≡ (t, mapped (raise k) u) ∷ [] → most_general_unifier es ≡ None
unfolding most_general_unifier
none_unify t u es k a b h e =
    let none : Option (List Binding) = None in
    ap (λ (x : List Equation). then_by (all_apart x) solved_all) e
    ∙ ap (λ (o : Option (List Binding)). then_by (joined o (Some [])) solved_all) (differ t u a b h k)
