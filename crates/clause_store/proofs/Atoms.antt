-- Whether an atom has a predicate.
use Rattle.std.proofs.Common.{◌≡◌, ◌↔◌, ℕ, List, length, Bool, true, false, ap, ◌∙◌, sym, subst}
use Rattle.std.specs.Prelude.{IsTrue}
use Rattle.std.specs.Str.{bytes_eq}
use Rattle.std.proofs.lemmas.Slice.Eq.{bytes_eq-Decides}
use Rattle.clp_model.specs.declared.sort.Sort.{Sort}
use Rattle.clp_model.specs.declared.predicate.Pred.{Pred}
use Rattle.clp_model.specs.declared.tree.Variable.{Variable}
use Rattle.clp_model.specs.declared.tree.Tree.{Tree, App}
use Rattle.clp_model.specs.Trees.{IsApplication, arguments_of}
use Rattle.clp_model.specs.Predicates.{predicate_of}
use Rattle.clp_model.proofs.Trees.{application_app, not_application_var, name_of_app, arguments_of_app}
use Rattle.term_store.specs.Trees.{variable}

abbrev pub Has : Tree Variable → Pred → Type 0
Has tree p = IsApplication tree × (predicate_of tree ≡ p)

abbrev pred : List ℕ → ℕ → Pred
pred name arity = record { name = name; arity = arity }

pub no_predicate : (tree : Tree Variable) (n : ℕ) (s : Sort) (p : Pred) → tree ≡ variable n s → IsTrue false ↔ Has tree p
no_predicate tree n s p is = ((λ h. absurd (cc)), (λ k. let P : Tree Variable → Type 0 = IsApplication in absurd (not_application_var (record { number = n; sort = s }) (subst P is k.0))))

module _ (tree : Tree Variable) (name : List ℕ) (ts : List (Tree Variable)) (p : Pred) (is : tree ≡ App name ts) where
  predicate_is : predicate_of tree ≡ pred name (length ts)
  predicate_is =
      ap predicate_of is
      ∙ (ap (λ (n : List ℕ). pred n (length (arguments_of (App name ts)))) (name_of_app name ts) ∙ ap (λ (us : List (Tree Variable)). pred name (length us)) (arguments_of_app name ts))

  pub other_arity : (b : Bool) → (b ≡ true → length ts ≡ p.arity) → ¬ (length ts ≡ p.arity) → IsTrue b ↔ Has tree p
  other_arity b means not = ((λ h. absurd (not (means h))), (λ k. absurd (not (ap (λ (q : Pred). q.arity) (sym predicate_is ∙ k.1)))))

  pub same_arity : (r : Bool) → r ≡ bytes_eq name p.name → length ts ≡ p.arity → IsTrue r ↔ Has tree p
  same_arity r e arity = (
    (λ h.
        let names = (bytes_eq-Decides name p.name).0 (sym e ∙ h) in
        let P : Tree Variable → Type 0 = IsApplication in
        (subst P (sym is) (application_app name ts), predicate_is ∙ (ap (λ (n : List ℕ). pred n (length ts)) names ∙ ap (λ (k : ℕ). pred p.name k) arity))),
    (λ k. e ∙ (bytes_eq-Decides name p.name).1 (ap (λ (q : Pred). q.name) (sym predicate_is ∙ k.1))),
  )
