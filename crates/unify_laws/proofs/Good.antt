-- The bindings that equations are taken apart into: of which variables they speak, and how they are directed.
use Rattle.std.proofs.Common.{◌≡◌, List, [], ◌∷◌, ◌++◌, refl, Bool, true, false, Option, Some, None}
use Rattle.std.specs.Prelude.{if◌then◌else◌}
use Rattle.std.specs.Str.{bytes_eq}
use Rattle.clp_model.specs.declared.sort.Sort.{Sort}
use Rattle.clp_model.specs.declared.sort.Sort.TheVariants.{Any, Num}
use Rattle.clp_model.specs.declared.tree.Variable.{Variable}
use Rattle.clp_model.specs.declared.tree.Tree.{Tree, Var, App', Row_of-Tree, end_of-Tree, more_of-Tree}
use Rattle.clp_model.specs.Trees.{variables, variables_in_row}
use Rattle.clp_model.proofs.Membership.{Among, first, among_front, among_back}
use Rattle.unify_model.specs.Substituting.{Binding, same_variable, comes_before}
use Rattle.unify_model.specs.Equations.{Equation}
use Rattle.unify_model.specs.Unifying.{joined, of_application, apart, row_apart, all_apart}
use Rattle.unify_laws.proofs.Variables.{other_before}

-- a variable is bound to one that comes before it, and only an Any variable to an application
abbrev pub IsDirected : Variable → Tree Variable → Type 0
IsDirected v (Var w) = comes_before w v ≡ true
IsDirected v (App' name shape args) = v.sort ≡ Any

abbrev pub EachOf : (Variable → Type 0) → List Variable → Type 0
EachOf P vs = (v : Variable) → Among v vs → P v

pub record IsGood (P : Variable → Type 0) (b : Binding) : Type 0 where
  pub left : P b.0
  pub right : EachOf P (variables b.1)
  pub directed : IsDirected b.0 b.1

abbrev pub AllGood : (Variable → Type 0) → List Binding → Type 0
AllGood P [] = Unit {0}
AllGood P (b ∷ bs) = IsGood P b × AllGood P bs

abbrev pub GoodIfAny : (Variable → Type 0) → Option (List Binding) → Type 0
GoodIfAny P None = Unit {0}
GoodIfAny P (Some bs) = AllGood P bs

abbrev pub OfEquations : (Variable → Type 0) → List Equation → Type 0
OfEquations P [] = Unit {0}
OfEquations P (e ∷ es) = (EachOf P (variables e.0) × EachOf P (variables e.1)) × OfEquations P es

good_both : (P : Variable → Type 0) (bs cs : List Binding) → AllGood P bs → AllGood P cs → AllGood P (bs ++ cs)
good_both P [] cs h k = k
good_both P (b ∷ bs) cs h k = (h.0, good_both P bs cs h.1 k)

joined_good : (P : Variable → Type 0) (o o' : Option (List Binding)) → GoodIfAny P o → GoodIfAny P o' → GoodIfAny P (joined o o')
joined_good P None o' h k = tt
joined_good P (Some bs) None h k = tt
joined_good P (Some bs) (Some cs) h k = good_both P bs cs h k

one_good : (P : Variable → Type 0) (v : Variable) (t : Tree Variable) → P v → EachOf P (variables t) → IsDirected v t → GoodIfAny P (Some ((v, t) ∷ []))
one_good P v t h k d = (record { left = h; right = k; directed = d }, tt)

of_one : (P : Variable → Type 0) (v : Variable) → EachOf P (variables (Var v)) → P v
unfolding variables
of_one P v h = h v first

module _ (P : Variable → Type 0) where
  variables_good : (v w : Variable) → EachOf P (variables (Var v)) → EachOf P (variables (Var w)) → (same : Bool) → same_variable v w ≡ same → (before : Bool) → comes_before v w ≡ before → GoodIfAny P (if same then Some [] else (if before then Some ((w, Var v) ∷ []) else Some ((v, Var w) ∷ [])))
  variables_good v w h k true e before e' = tt
  variables_good v w h k false e true e' = one_good P w (Var v) (of_one P w k) h e'
  variables_good v w h k false e false e' = one_good P v (Var w) (of_one P v h) k (other_before v w e e')

  application_good : (s : Sort) (v : Variable) → v.sort ≡ s → P v → (t : Tree Variable) → EachOf P (variables t) → (v.sort ≡ Any → IsDirected v t) → GoodIfAny P (of_application s v t)
  application_good Any v e h t k d = one_good P v t h k (d e)
  application_good Num v e h t k d = tt

  named_good : (b : Bool) (o : Option (List Binding)) → GoodIfAny P o → GoodIfAny P (if b then o else None)
  named_good true o h = h
  named_good false o h = tt

  mutual
    unfolding apart variables

    pub apart_good : (t u : Tree Variable) → EachOf P (variables t) → EachOf P (variables u) → GoodIfAny P (apart t u)
    apart_good (Var v) (Var w) h k = variables_good v w h k (same_variable v w) refl (comes_before v w) refl
    apart_good (Var v) (App' g shape us) h k = application_good v.sort v refl (of_one P v h) (App' g shape us) k (λ e. e)
    apart_good (App' f shape ts) (Var w) h k = application_good w.sort w refl (of_one P w k) (App' f shape ts) h (λ e. e)
    apart_good (App' f shape ts) (App' g shape' us) h k = named_good (bytes_eq f g) (row_apart ts us) (row_apart_good ts us h k)

    row_apart_good : {m n : _} (ts : Row_of-Tree Variable m) (us : Row_of-Tree Variable n) → EachOf P (variables_in_row ts) → EachOf P (variables_in_row us) → GoodIfAny P (row_apart ts us)
    row_apart_good end_of-Tree end_of-Tree h k = tt
    row_apart_good (more_of-Tree t ts) (more_of-Tree u us) h k =
        joined_good P (apart t u) (row_apart ts us)
        (apart_good t u (λ v m. h v (among_front v (variables t) (variables_in_row ts) m)) (λ v m. k v (among_front v (variables u) (variables_in_row us) m)))
        (row_apart_good ts us (λ v m. h v (among_back v (variables t) (variables_in_row ts) m)) (λ v m. k v (among_back v (variables u) (variables_in_row us) m)))
    row_apart_good end_of-Tree (more_of-Tree u us) h k = tt
    row_apart_good (more_of-Tree t ts) end_of-Tree h k = tt

  pub all_apart_good : (es : List Equation) → OfEquations P es → GoodIfAny P (all_apart es)
  all_apart_good [] h = tt
  all_apart_good (e ∷ es) h = joined_good P (apart e.0 e.1) (all_apart es) (apart_good e.0 e.1 h.0.0 h.0.1) (all_apart_good es h.1)
