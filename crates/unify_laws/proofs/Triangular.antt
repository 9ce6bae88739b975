-- Bindings that are carried out one after another, none of which speaks of a variable that an earlier one has taken away.
use Rattle.std.proofs.Common.{◌≡◌, ℕ, List, [], ◌∷◌, refl, sym, ap, ◌∙◌, subst, Bool, true, false, ◌⊎◌, inl, inr}
use Rattle.clp_model.specs.declared.sort.Sort.TheVariants.{Any, Num}
use Rattle.clp_model.specs.declared.tree.Variable.{Variable}
use Rattle.clp_model.specs.declared.tree.Tree.{Tree, Var, App', Row_of-Tree}
use Rattle.clp_model.specs.Trees.{variables}
use Rattle.clp_model.specs.Values.{Value}
use Rattle.clp_model.proofs.Membership.{Among, first, next}
use Rattle.unify_model.specs.Substituting.{substituted, Binding, same_variable, comes_before, image}
use Rattle.unify_model.specs.Equations.{value_by}
use Rattle.unify_model.specs.Solving.{Agrees, IsImage}
use Rattle.unify_laws.proofs.Variables.{same_is, same_itself, differs, differ_so, before_twice, before_number}
use Rattle.unify_laws.proofs.Substituted.{value_substituted, value_agrees, substituted_by_itself, came_from}
use Rattle.unify_laws.proofs.Apart.{AllBound}
use Rattle.unify_laws.proofs.Good.{IsDirected, EachOf}

-- P, but not this variable
abbrev pub Without : (Variable → Type 0) → Variable → Variable → Type 0
Without P x v = P v × (x ≡ v → ⊥)

abbrev pub AreTriangular : (Variable → Type 0) → List Binding → Type 0
AreTriangular P [] = Unit {0}
AreTriangular P (b ∷ bs) = P b.0 × EachOf (Without P b.0) (variables b.1) × IsDirected b.0 b.1 × AreTriangular (Without P b.0) bs

pub triangular_weaker : (P Q : Variable → Type 0) → ((v : Variable) → P v → Q v) → (bs : List Binding) → AreTriangular P bs → AreTriangular Q bs
triangular_weaker P Q h [] t = tt
triangular_weaker P Q h (b ∷ bs) t =
    (h b.0 t.0, (λ v m. let k = t.1 v m in (h v k.0, k.1)), t.2, triangular_weaker (Without P b.0) (Without Q b.0) (λ v k. (h v k.0, k.1)) bs t.3)

-- ---- the image of the first variable, and of another
pub image_first : (b : Binding) (bs : List Binding) → image (b ∷ bs) b.0 ≡ substituted (image bs) b.1
image_first b bs = let e = same_itself b.0 in rw e refl

pub image_other : (b : Binding) (bs : List Binding) (v : Variable) → (b.0 ≡ v → ⊥) → image (b ∷ bs) v ≡ image bs v
image_other b bs v h = let e = differ_so b.0 v h in rw e refl

-- one of the two
pub is_or_not : (x v : Variable) → (x ≡ v) ⊎ (x ≡ v → ⊥)
is_or_not x v = go (same_variable x v) refl
  where
    go : (b : Bool) → same_variable x v ≡ b → (x ≡ v) ⊎ (x ≡ v → ⊥)
    go true e = inl (same_is x v e)
    go false e = inr (differs x v e)

-- a variable that no binding speaks of is its own image
pub untouched : (P : Variable → Type 0) (bs : List Binding) → AreTriangular P bs → (v : Variable) → (P v → ⊥) → image bs v ≡ Var v
untouched P [] t v h = refl
untouched P (b ∷ bs) t v h =
    image_other b bs v (λ e. h (subst P e t.0)) ∙ untouched (Without P b.0) bs t.3 v (λ k. h k.0)

-- the variables of an image are the variable itself, or are spoken of
pub of_image : (P : Variable → Type 0) (bs : List Binding) → AreTriangular P bs → (v w : Variable) → Among w (variables (image bs v)) → (w ≡ v) ⊎ P w
unfolding variables
of_image P [] t v w first = inl refl
of_image P [] t v w (next m) = elim m [ ]
of_image P (b ∷ bs) t v w m = go (is_or_not b.0 v) (λ v' k. of_image (Without P b.0) bs t.3 v' w k)
  where
    go : (b.0 ≡ v) ⊎ (b.0 ≡ v → ⊥) → ((v' : Variable) → Among w (variables (image bs v')) → (w ≡ v') ⊎ Without P b.0 w) → (w ≡ v) ⊎ P w
    go (inl e) again =
        let n : Among w (variables (substituted (image bs) b.1)) = subst (λ t. Among w (variables t)) (ap (image (b ∷ bs)) (sym e) ∙ image_first b bs) m in
        let c = came_from (image bs) w b.1 n in
        elim (again c.0 c.2) [ inl q ↦ inr (subst P (sym q) (t.1 c.0 c.1).0) | inr k ↦ inr k.0 ]
    go (inr d) again =
        let n : Among w (variables (image bs v)) = subst (λ t. Among w (variables t)) (image_other b bs v d) m in
        elim (again v n) [ inl q ↦ inl q | inr k ↦ inr k.0 ]

-- a variable of an image is its own image
pub settled_variable : (P : Variable → Type 0) (bs : List Binding) → AreTriangular P bs → (v w : Variable) → Among w (variables (image bs v)) → image bs w ≡ Var w
settled_variable P [] t v w m = refl
settled_variable P (b ∷ bs) t v w m = go (is_or_not b.0 v) (λ v' k. settled_variable (Without P b.0) bs t.3 v' w k)
  where
    go : (b.0 ≡ v) ⊎ (b.0 ≡ v → ⊥) → ((v' : Variable) → Among w (variables (image bs v')) → image bs w ≡ Var w) → image (b ∷ bs) w ≡ Var w
    go (inl e) again =
        let n : Among w (variables (substituted (image bs) b.1)) = subst (λ t. Among w (variables t)) (ap (image (b ∷ bs)) (sym e) ∙ image_first b bs) m in
        let c = came_from (image bs) w b.1 n in
        let apart : b.0 ≡ w → ⊥ = elim (of_image (Without P b.0) bs t.3 c.0 w c.2) [ inl q ↦ (λ x. (t.1 c.0 c.1).1 (x ∙ q)) | inr k ↦ k.1 ] in
        image_other b bs w apart ∙ again c.0 c.2
    go (inr d) again =
        let n : Among w (variables (image bs v)) = subst (λ t. Among w (variables t)) (image_other b bs v d) m in
        let apart : b.0 ≡ w → ⊥ = elim (of_image (Without P b.0) bs t.3 v w n) [ inl q ↦ (λ x. d (x ∙ q)) | inr k ↦ k.1 ] in
        image_other b bs w apart ∙ again v n

pub settled : (P : Variable → Type 0) (bs : List Binding) → AreTriangular P bs → (v : Variable) → substituted (image bs) (image bs v) ≡ image bs v
settled P bs t v = substituted_by_itself (image bs) (image bs v) (λ w m. settled_variable P bs t v w m)

-- ---- directed images
itself : (v : Variable) → IsImage v (Var v)
itself v = record { least = λ r e. inl (variable_of e); number = λ e. (v, refl) }
  where
    variable_of : {r w : Variable} → Var w ≡ Var r → r ≡ w
    variable_of {r} {w} e = let back : Tree Variable → Variable = elim [ Var x ↦ x | App' name shape args ↦ w ] in sym (ap back e)

is_image : (v w : Variable) (t : Tree Variable) → comes_before w v ≡ true → IsImage w t → IsImage v t
is_image v w t h i = record { least = λ r e. elim (i.least r e) [ inl q ↦ inr (subst (λ x. comes_before x v ≡ true) (sym q) h) | inr k ↦ inr (before_twice r w v k h) ]; number = λ e. i.number (before_number w v h e) }

application_image : (v : Variable) (name : List ℕ) (shape : _) (args : Row_of-Tree Variable _) → v.sort ≡ Any → IsImage v (App' name shape args)
application_image v name shape args e =
    record { least = λ r q. absurd (never q); number = λ q. absurd (no_sort (sym e ∙ q)) }
  where
    never : {r : Variable} → App' name shape args ≡ Var r → ⊥
    never q = absurd (cc)

    no_sort : Any ≡ Num → ⊥
    no_sort q = absurd (cc)

directed_image : (bs : List Binding) → ((v : Variable) → IsImage v (image bs v)) → (x : Variable) (t : Tree Variable) → IsDirected x t → IsImage x (substituted (image bs) t)
unfolding substituted
directed_image bs h x (Var w) d = is_image x w (image bs w) d (h w)
directed_image bs h x (App' name shape args) d = application_image x name shape _ d

pub images : (P : Variable → Type 0) (bs : List Binding) → AreTriangular P bs → (v : Variable) → IsImage v (image bs v)
images P [] t v = itself v
images P (b ∷ bs) t v = go (is_or_not b.0 v) (λ w. images (Without P b.0) bs t.3 w)
  where
    go : (b.0 ≡ v) ⊎ (b.0 ≡ v → ⊥) → ((w : Variable) → IsImage w (image bs w)) → IsImage v (image (b ∷ bs) v)
    go (inl e) again = subst (λ x. IsImage x (image (b ∷ bs) x)) e (subst (IsImage b.0) (sym (image_first b bs)) (directed_image bs again b.0 b.1 t.2))
    go (inr d) again = subst (IsImage v) (sym (image_other b bs v d)) (again v)

-- ---- the bindings hold exactly where each variable has the value of its image
pub bound_agrees : (a : Variable → Value) (bs : List Binding) → AllBound a bs → Agrees a (image bs)
unfolding value_by
bound_agrees a [] h v = refl
bound_agrees a (b ∷ bs) h v = go (is_or_not b.0 v) (bound_agrees a bs h.1)
  where
    go : (b.0 ≡ v) ⊎ (b.0 ≡ v → ⊥) → Agrees a (image bs) → a v ≡ value_by a (image (b ∷ bs) v)
    go (inl e) again =
        let one : value_by a (image (b ∷ bs) b.0) ≡ value_by (λ w. value_by a (image bs w)) b.1 = ap (value_by a) (image_first b bs) ∙ value_substituted a (image bs) b.1 in
        let two : value_by a b.1 ≡ value_by (λ w. value_by a (image bs w)) b.1 = value_agrees a (λ w. value_by a (image bs w)) b.1 (λ w m. again w) in
        subst (λ x. a x ≡ value_by a (image (b ∷ bs) x)) e (h.0 ∙ two ∙ sym one)
    go (inr d) again = again v ∙ ap (value_by a) (sym (image_other b bs v d))

pub agrees_bound : (P : Variable → Type 0) (a : Variable → Value) (bs : List Binding) → AreTriangular P bs → Agrees a (image bs) → AllBound a bs
unfolding value_by
agrees_bound P a [] t h = tt
agrees_bound P a (b ∷ bs) t h =
    let one : value_by a (image (b ∷ bs) b.0) ≡ value_by (λ w. value_by a (image bs w)) b.1 = ap (value_by a) (image_first b bs) ∙ value_substituted a (image bs) b.1 in
    let two : value_by a b.1 ≡ value_by (λ w. value_by a (image bs w)) b.1 = value_agrees a (λ w. value_by a (image bs w)) b.1 (λ w m. rest w) in
    (h b.0 ∙ one ∙ sym two, agrees_bound (Without P b.0) a bs t.3 rest)
  where
    other : (v : Variable) → (b.0 ≡ v) ⊎ (b.0 ≡ v → ⊥) → a v ≡ value_by a (image bs v)
    other v (inl e) = ap (value_by a) (sym (untouched (Without P b.0) bs t.3 v (λ k. k.1 e)))
    other v (inr d) = h v ∙ ap (value_by a) (image_other b bs v d)

    rest : Agrees a (image bs)
    rest v = other v (is_or_not b.0 v)
