-- What the bindings say that an equation is taken apart into.
use Rattle.std.proofs.Common.{◌≡◌, ℕ, List, [], ◌∷◌, ◌++◌, refl, sym, ap, ◌∙◌, subst, Bool, true, false, Option, Some, None}
use Rattle.std.specs.Prelude.{if◌then◌else◌}
use Rattle.std.specs.Str.{bytes_eq}
use Rattle.std.proofs.lemmas.Slice.Eq.{bytes_eq-Decides}
use Rattle.clp_model.specs.declared.sort.Sort.{Sort}
use Rattle.clp_model.specs.declared.sort.Sort.TheVariants.{Any, Num}
use Rattle.clp_model.specs.declared.tree.Variable.{Variable}
use Rattle.clp_model.specs.declared.tree.Tree.{Tree, Var, App', Row_of-Tree, end_of-Tree, more_of-Tree}
use Rattle.clp_model.specs.Values.{Value, Values, Number, Named, NoValue, AndValue}
use Rattle.unify_model.specs.Substituting.{Binding, same_variable, comes_before}
use Rattle.unify_model.specs.Equations.{Equation, value_by, row_by, AllHold}
use Rattle.unify_model.specs.Unifying.{joined, of_application, apart, row_apart, all_apart}
use Rattle.unify_laws.proofs.Variables.{same_is}

abbrev pub IsNumber : Value → Type 0
IsNumber (Number f lowest) = Unit {0}
IsNumber (Named name vs) = ⊥

-- the variable has the value of its tree
abbrev pub Bound : (Variable → Value) → Binding → Type 0
Bound a b = a b.0 ≡ value_by a b.1

abbrev pub AllBound : (Variable → Value) → List Binding → Type 0
AllBound a [] = Unit {0}
AllBound a (b ∷ bs) = Bound a b × AllBound a bs

-- the bindings say the same as P, and where there are none, P does not hold
abbrev pub Means : (Variable → Value) → Option (List Binding) → Type 0 → Type 0
Means a None P = P → ⊥
Means a (Some bs) P = (P → AllBound a bs) × (AllBound a bs → P)

pub means_same : (a : Variable → Value) (o : Option (List Binding)) {P Q : Type 0} → (P → Q) → (Q → P) → Means a o P → Means a o Q
means_same a None to from m = λ q. m (from q)
means_same a (Some bs) to from m = ((λ q. m.0 (from q)), (λ all. to (m.1 all)))

bound_both : (a : Variable → Value) (bs cs : List Binding) → AllBound a bs → AllBound a cs → AllBound a (bs ++ cs)
bound_both a [] cs h k = k
bound_both a (b ∷ bs) cs h k = (h.0, bound_both a bs cs h.1 k)

bound_parts : (a : Variable → Value) (bs cs : List Binding) → AllBound a (bs ++ cs) → AllBound a bs × AllBound a cs
bound_parts a [] cs h = (tt, h)
bound_parts a (b ∷ bs) cs h = let p = bound_parts a bs cs h.1 in ((h.0, p.0), p.1)

pub joined_means : (a : Variable → Value) (o o' : Option (List Binding)) (P Q : Type 0) → Means a o P → Means a o' Q → Means a (joined o o') (P × Q)
joined_means a None o' P Q m n = λ h. m h.0
joined_means a (Some bs) None P Q m n = λ h. n h.1
joined_means a (Some bs) (Some cs) P Q m n =
    ((λ h. bound_both a bs cs (m.0 h.0) (n.0 h.1)), (λ all. let p = bound_parts a bs cs all in (m.1 p.0, n.1 p.1)))

-- ---- parts of values
pub named_name : {f g : List ℕ} {r s : Values} → Named f r ≡ Named g s → f ≡ g
named_name {f} e = let back : Value → List ℕ = λ x. elim x [ Number h l ↦ f | Named n vs ↦ n ] in ap back e

pub named_values : {f g : List ℕ} {r s : Values} → Named f r ≡ Named g s → r ≡ s
named_values {r} e = let back : Value → Values = λ x. elim x [ Number h l ↦ r | Named n vs ↦ vs ] in ap back e

pub and_value : {x y : Value} {r s : Values} → AndValue x r ≡ AndValue y s → x ≡ y
and_value {x} e = let back : Values → Value = λ z. elim z [ NoValue ↦ x | AndValue v vs ↦ v ] in ap back e

pub and_rest : {x y : Value} {r s : Values} → AndValue x r ≡ AndValue y s → r ≡ s
and_rest {r} e = let back : Values → Values = λ z. elim z [ NoValue ↦ r | AndValue v vs ↦ vs ] in ap back e

module _ (a : Variable → Value) (numbers : (v : Variable) → v.sort ≡ Num → IsNumber (a v)) where
  variables_mean : (v w : Variable) (same : Bool) → same_variable v w ≡ same → (before : Bool) → Means a (if same then Some [] else (if before then Some ((w, Var v) ∷ []) else Some ((v, Var w) ∷ []))) (a v ≡ a w)
  unfolding value_by
  variables_mean v w true e before = ((λ h. tt), (λ all. ap a (same_is v w e)))
  variables_mean v w false e true = ((λ h. (sym h, tt)), (λ all. sym all.0))
  variables_mean v w false e false = ((λ h. (h, tt)), (λ all. all.0))

  application_means : (s : Sort) (v : Variable) → v.sort ≡ s → (t : Tree Variable) → (IsNumber (value_by a t) → ⊥) → Means a (of_application s v t) (a v ≡ value_by a t)
  application_means Any v e t never = ((λ h. (h, tt)), (λ all. all.0))
  application_means Num v e t never = λ h. never (subst IsNumber h (numbers v e))

  named_means : (f g : List ℕ) (b : Bool) → bytes_eq f g ≡ b → (o : Option (List Binding)) (r s : Values) → Means a o (r ≡ s) → Means a (if b then o else None) (Named f r ≡ Named g s)
  named_means f g true e o r s m =
      means_same a o (λ h. ap (Named f) h ∙ ap (λ n. Named n s) ((bytes_eq-Decides f g).0 e)) named_values m
  named_means f g false e o r s m = λ h. let k = (bytes_eq-Decides f g).1 (named_name h) in absurd (cc)

  mutual
    unfolding apart value_by

    pub apart_means : (t u : Tree Variable) → Means a (apart t u) (value_by a t ≡ value_by a u)
    apart_means (Var v) (Var w) = variables_mean v w (same_variable v w) refl (comes_before v w)
    apart_means (Var v) (App' g shape us) = application_means v.sort v refl (App' g shape us) (λ n. n)
    apart_means (App' f shape ts) (Var w) = means_same a (of_application w.sort w (App' f shape ts)) sym sym (application_means w.sort w refl (App' f shape ts) (λ n. n))
    apart_means (App' f shape ts) (App' g shape' us) = named_means f g (bytes_eq f g) refl (row_apart ts us) (row_by a ts) (row_by a us) (row_apart_means ts us)

    row_apart_means : {m n : _} (ts : Row_of-Tree Variable m) (us : Row_of-Tree Variable n) → Means a (row_apart ts us) (row_by a ts ≡ row_by a us)
    row_apart_means end_of-Tree end_of-Tree = ((λ h. tt), (λ all. refl))
    row_apart_means (more_of-Tree t ts) (more_of-Tree u us) =
        means_same a (joined (apart t u) (row_apart ts us)) (λ h. let p = h.0 in let q = h.1 in cc) (λ h. (and_value h, and_rest h))
        (joined_means a (apart t u) (row_apart ts us) _ _ (apart_means t u) (row_apart_means ts us))
    row_apart_means end_of-Tree (more_of-Tree u us) = λ h. absurd (cc)
    row_apart_means (more_of-Tree t ts) end_of-Tree = λ h. absurd (cc)

  pub all_apart_mean : (es : List Equation) → Means a (all_apart es) (AllHold a es)
  all_apart_mean [] = ((λ h. tt), (λ all. tt))
  all_apart_mean (e ∷ es) = joined_means a (apart e.0 e.1) (all_apart es) _ _ (apart_means e.0 e.1) (all_apart_mean es)
