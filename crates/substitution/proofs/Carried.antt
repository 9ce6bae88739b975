-- What a variable becomes, by its binding.
use Rattle.std.proofs.Common.{◌≡◌, ℕ, zero, suc, ◌+◌, ◌<◌, ◌≤◌, List, [], ◌∷◌, ◌++◌, length, refl, sym, ap, ◌∙◌, subst, arith, Bool, true, false, Option, Some, None}
use Rattle.std.specs.Prelude.{if◌then◌else◌, slice_get}
use Rattle.clp_model.specs.declared.tree.Variable.{Variable}
use Rattle.clp_model.specs.declared.tree.Tree.{Tree, Var}
use Rattle.clp_model.specs.Trees.{variables}
use Rattle.clp_model.proofs.Membership.{Among}
use Rattle.term_store.specs.Trees.{tree_at}
use Rattle.unify_model.specs.Substituting.{substituted, Binding, same_variable, image}
use Rattle.unify_model.specs.Matching.{image_at_once}
use Rattle.unify_laws.proofs.Variables.{same_is, differ_so}
use Rattle.unify_laws.proofs.Substituted.{substituted_agrees}
use Rattle.unify_laws.proofs.Good.{EachOf}
use Rattle.unify_laws.proofs.Triangular.{AreTriangular, Without, image_first, image_other}
use Rattle.substitution.specs.declared.bindings.Bound.{Bound}
use Rattle.substitution.specs.declared.images.Kind.{Kind}
use Rattle.substitution.specs.declared.images.Kind.TheVariants as kind
use Rattle.substitution.specs.Bindings.{binding, bound, bound_onto, AreBound, bound_variables, bound_variables_onto, height_of, height}
use Rattle.substitution.specs.Images.{images_by, carried, AreOrdered}
use Rattle.substitution.proofs.Places.{height_within}
use Rattle.substitution.proofs.Weighed.{each_height}

-- ---- the variables of bindings
abbrev pub firsts : List Binding → List Variable
firsts [] = []
firsts (b ∷ bs) = b.0 ∷ firsts bs

firsts_count : (bs : List Binding) → length (firsts bs) ≡ length bs
firsts_count [] = refl
firsts_count (b ∷ bs) = ap suc (firsts_count bs)

variables_onto : (store : List (Tree Variable)) (acc : List Binding) (items : List Bound) → bound_variables_onto (firsts acc) items ≡ firsts (bound_onto store acc items)
variables_onto store acc [] = refl
variables_onto store acc (b ∷ more) = variables_onto store (binding store b ∷ acc) more

pub variables_are : (store : List (Tree Variable)) (items : List Bound) → bound_variables items ≡ firsts (bound store items)
variables_are store items = variables_onto store [] items

-- ---- a variable that is not bound
unbound_in_turn : (bs : List Binding) (v : Variable) → height_of (firsts bs) v ≡ 0 → image bs v ≡ Var v
unbound_in_turn [] v h = refl
unbound_in_turn (b ∷ bs) v h = go (same_variable b.0 v) (unbound_in_turn bs v) h
  where
    go : (c : Bool) → (height_of (firsts bs) v ≡ 0 → image bs v ≡ Var v) → (if c then suc (length (firsts bs)) else height_of (firsts bs) v) ≡ 0 → (if c then substituted (image bs) b.1 else image bs v) ≡ Var v
    go true again k = absurd (omega (arith, k))
    go false again k = again k

unbound_at_once : (bs : List Binding) (v : Variable) → height_of (firsts bs) v ≡ 0 → image_at_once bs v ≡ Var v
unbound_at_once [] v h = refl
unbound_at_once (b ∷ bs) v h = go (same_variable b.0 v) (unbound_at_once bs v) h
  where
    go : (c : Bool) → (height_of (firsts bs) v ≡ 0 → image_at_once bs v ≡ Var v) → (if c then suc (length (firsts bs)) else height_of (firsts bs) v) ≡ 0 → (if c then b.1 else image_at_once bs v) ≡ Var v
    go true again k = absurd (omega (arith, k))
    go false again k = again k

unbound_by : (k : Kind) (bs : List Binding) (v : Variable) → height_of (firsts bs) v ≡ 0 → images_by k bs v ≡ Var v
unbound_by kind.InTurn bs v h = unbound_in_turn bs v h
unbound_by kind.AtOnce bs v h = unbound_at_once bs v h

pub unbound_image : (store : List (Tree Variable)) (k : Kind) (items : List Bound) (v : Variable) → height_of (bound_variables items) v ≡ 0 → images_by k (bound store items) v ≡ Var v
unbound_image store k items v h = unbound_by k (bound store items) v (ap (λ vs. height_of vs v) (sym (variables_are store items)) ∙ h)

-- ---- the binding of a variable among the others
-- it is the one behind which there are as many as its height says, less one
pub first_at : (pre : List Binding) (b : Binding) (rest : List Binding) (v : Variable) → height_of (firsts (pre ++ b ∷ rest)) v ≡ suc (length rest) → (b.0 ≡ v) × (image_at_once (pre ++ b ∷ rest) v ≡ b.1)
first_at [] b rest v h = go (same_variable b.0 v) refl h
  where
    go : (c : Bool) → same_variable b.0 v ≡ c → (if c then suc (length (firsts rest)) else height_of (firsts rest) v) ≡ suc (length rest) → (b.0 ≡ v) × ((if c then b.1 else image_at_once rest v) ≡ b.1)
    go true e k = (same_is b.0 v e, refl)
    go false e k = absurd (let a = height_within (firsts rest) v in let n = firsts_count rest in omega (arith, a, n, k))
first_at (x ∷ pre) b rest v h = go (same_variable x.0 v) (first_at pre b rest v) h
  where
    go : (c : Bool) → (height_of (firsts (pre ++ b ∷ rest)) v ≡ suc (length rest) → (b.0 ≡ v) × (image_at_once (pre ++ b ∷ rest) v ≡ b.1))
        → (if c then suc (length (firsts (pre ++ b ∷ rest))) else height_of (firsts (pre ++ b ∷ rest)) v) ≡ suc (length rest)
        → (b.0 ≡ v) × ((if c then x.1 else image_at_once (pre ++ b ∷ rest) v) ≡ b.1)
    go true again k = absurd (let n = firsts_count (pre ++ b ∷ rest) in let l = longer pre b rest in omega (arith, n, l, k))
      where
        longer : (pre : List Binding) (b : Binding) (rest : List Binding) → length rest < length (pre ++ b ∷ rest)
        longer [] b rest = omega arith
        longer (y ∷ ys) b rest = let h = longer ys b rest in omega (arith, h)
    go false again k = again k

of_binding : (P : Variable → Type 0) (pre : List Binding) (b : Binding) (rest : List Binding) → AreTriangular P (pre ++ b ∷ rest) → P b.0 × EachOf P (variables b.1)
of_binding P [] b rest t = (t.0, λ v m. (t.1 v m).0)
of_binding P (x ∷ pre) b rest t = let k = of_binding (Without P x.0) pre b rest t.3 in (k.0.0, λ v m. (k.1 v m).0)

other_height : (v w : Variable) (vs : List Variable) → (v ≡ w → ⊥) → height_of (v ∷ vs) w ≡ height_of vs w
other_height v w vs d = let e = differ_so v w d in rw e refl

-- each image is its tree with all images carried out in it, which are of bindings behind it
turn_at : (P : Variable → Type 0) (pre : List Binding) (b : Binding) (rest : List Binding) → AreTriangular P (pre ++ b ∷ rest)
    → (image (pre ++ b ∷ rest) b.0 ≡ substituted (image (pre ++ b ∷ rest)) b.1) × ((w : Variable) → Among w (variables b.1) → height_of (firsts (pre ++ b ∷ rest)) w ≤ length rest)
turn_at P [] b rest t = (
  image_first b rest ∙ substituted_agrees (image rest) (image (b ∷ rest)) b.1 (λ w m. sym (image_other b rest w (t.1 w m).1)),
  λ w m. (let e = other_height b.0 w (firsts rest) (t.1 w m).1 in let h = height_within (firsts rest) w in let n = firsts_count rest in omega (arith, e, h, n)),
)
turn_at P (x ∷ pre) b rest t =
    let all = pre ++ b ∷ rest in
    let k = of_binding (Without P x.0) pre b rest t.3 in
    let i = turn_at (Without P x.0) pre b rest t.3 in (
      image_other x all b.0 k.0.1 ∙ i.0 ∙ substituted_agrees (image all) (image (x ∷ all)) b.1 (λ w m. sym (image_other x all w (k.1 w m).1)),
      λ w m. (let e = other_height x.0 w (firsts all) (k.1 w m).1 in let h = i.1 w m in omega (arith, e, h)),
    )

-- ---- the binding at a place
onto_front : (store : List (Tree Variable)) (acc : List Binding) (items : List Bound) → (pre : List Binding) × (bound_onto store acc items ≡ pre ++ acc)
onto_front store acc [] = ([], refl)
onto_front store acc (x ∷ xs) = let k = onto_front store (binding store x ∷ acc) xs in (k.0 ++ binding store x ∷ [], k.1 ∙ moved k.0)
  where
    moved : (pre : List Binding) → pre ++ binding store x ∷ acc ≡ (pre ++ binding store x ∷ []) ++ acc
    moved [] = refl
    moved (y ∷ ys) = ap (λ zs. y ∷ zs) (moved ys)

pub record Splits (bs : List Binding) (b : Binding) (place : ℕ) : Type 0 where
  pub pre : List Binding
  pub rest : List Binding
  pub is : bs ≡ pre ++ b ∷ rest
  pub count : length rest ≡ place

splits_onto : (store : List (Tree Variable)) (acc : List Binding) (items : List Bound) (place : ℕ) (b : Bound) → slice_get items place ≡ Some b → Splits (bound_onto store acc items) (binding store b) (place + length acc)
splits_onto store acc [] place b e = absurd (cc)
splits_onto store acc (x ∷ xs) zero b e =
    let back : Option Bound → Bound = elim [ None ↦ x | Some y ↦ y ] in
    let k = onto_front store (binding store x ∷ acc) xs in
    subst (λ y. Splits (bound_onto store acc (x ∷ xs)) (binding store y) (zero + length acc)) (ap back e) (record { pre = k.0; rest = acc; is = k.1; count = omega arith })
splits_onto store acc (x ∷ xs) (suc place) b e =
    let k = splits_onto store (binding store x ∷ acc) xs place b e in
    record { pre = k.pre; rest = k.rest; is = k.is; count = (let c = k.count in omega (arith, c)) }

module _ (store : List (Tree Variable)) (items : List Bound) (place : ℕ) (b : Bound) (at : slice_get items place ≡ Some b) where
  pub splits : Splits (bound store items) (binding store b) place
  splits = let k = splits_onto store [] items place b at in record { pre = k.pre; rest = k.rest; is = k.is; count = (let c = k.count in omega (arith, c)) }

  abbrev pub split_list : List Binding
  split_list = splits.pre ++ binding store b ∷ splits.rest

  pub its_height : (v : Variable) → height_of (bound_variables items) v ≡ suc place → height_of (firsts split_list) v ≡ suc (length splits.rest)
  its_height v h = ap (λ bs. height_of (firsts bs) v) (sym splits.is) ∙ ap (λ vs. height_of vs v) (sym (variables_are store items)) ∙ h ∙ ap suc (sym splits.count)

  image_in : (k : Kind) → AreOrdered k (bound store items) → (v : Variable) → height_of (bound_variables items) v ≡ suc place → images_by k (bound store items) v ≡ carried k (images_by k (bound store items)) (tree_at store b.term)
  image_in kind.AtOnce order v h = ap (λ bs. image_at_once bs v) splits.is ∙ (first_at splits.pre (binding store b) splits.rest v (its_height v h)).1
  image_in kind.InTurn order v h =
      let P : List Binding → Type 0 = AreTriangular (λ w. Unit {0}) in
      let Q : List Binding → Type 0 = λ bs. image bs v ≡ substituted (image bs) (tree_at store b.term) in
      let q = (first_at splits.pre (binding store b) splits.rest v (its_height v h)).0 in
      subst Q (sym splits.is) (ap (image split_list) (sym q) ∙ (turn_at (λ w. Unit {0}) splits.pre (binding store b) splits.rest (subst P splits.is order)).0)

  -- what a bound variable becomes
  pub image_at : (k : Kind) → AreOrdered k (bound store items) → (v : Variable) → height_of (bound_variables items) v ≡ suc place → images_by k (bound store items) v ≡ carried k (images_by k (bound store items)) (tree_at store b.term)
  image_at k order v h = image_in k order v h

  -- the term of a binding holds variables of earlier bindings alone
  pub height_at_place : AreTriangular (λ w. Unit {0}) (bound store items) → height (bound_variables items) (tree_at store b.term) ≤ place
  height_at_place order =
      let P : List Binding → Type 0 = AreTriangular (λ w. Unit {0}) in
      let t = turn_at (λ w. Unit {0}) splits.pre (binding store b) splits.rest (subst P splits.is order) in
      let e : firsts split_list ≡ bound_variables items = ap firsts (sym splits.is) ∙ sym (variables_are store items) in
      each_height (bound_variables items) (variables (tree_at store b.term)) place
      (λ w m. (let h = t.1 w m in let c = splits.count in let q : height_of (firsts split_list) w ≡ height_of (bound_variables items) w = ap (λ vs. height_of vs w) e in omega (arith, h, c, q)))

pub term_within : (store : List (Tree Variable)) (items : List Bound) (place : ℕ) (b : Bound) → slice_get items place ≡ Some b → AreBound store items → b.term < length store
term_within store [] place b e h = absurd (cc)
term_within store (x ∷ xs) zero b e h =
    let back : Option Bound → ℕ = elim [ None ↦ x.term | Some y ↦ y.term ] in
    let q : x.term ≡ b.term = ap back e in
    let k = h.0 in
    omega (arith, q, k)
term_within store (x ∷ xs) (suc place) b e h = term_within store xs place b e h.1
