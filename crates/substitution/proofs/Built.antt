-- Terms that are built one after another.
use Rattle.std.proofs.Common.{◌≡◌, ℕ, zero, suc, Result, Ok, Err, IsErrOf, IfOk, ◌+◌, ◌*◌, ◌<◌, ◌≤◌, List, [], ◌∷◌, ◌++◌, length, take, get_or, refl, ap, ◌∙◌, sym, subst, arith, ◌⊎◌, inl, inr, cond, Bool, true, false, Option, Some, None}
use Rattle.std.specs.Prelude.{nat_eq, nat_lt, if◌then◌else◌}
use Rattle.std.specs.HashMap.{HashMap, get, Updates}
use Rattle.std.proofs.lemmas.Bool.{eqb-true}
use Rattle.clp_model.specs.declared.tree.Variable.{Variable}
use Rattle.clp_model.specs.declared.tree.Tree.{Tree, Var, App}
use Rattle.clp_model.specs.Trees.{size, total_size, greatest_depth, variables_in}
use Rattle.clp_model.proofs.Trees.{size_app, depth_app, size_positive}
use Rattle.term_store.specs.Trees.{tree_at, trees_at, AreIn, HasTree, HaveTrees, Keeps, IsSmall, IsTooLarge}
use Rattle.term_store.proofs.Keeping.{keeps_at, keeps_within, has_tree_kept, have_push, trees_at_more}
use Rattle.unify_model.specs.Substituting.{substituted, substituted_all, Binding}
use Rattle.substitution.specs.declared.bindings.Bound.{Bound}
use Rattle.substitution.specs.declared.images.Images.{Images}
use Rattle.substitution.specs.Bindings.{binding, bound, bound_onto, AreBound, height_of, height, greatest_height}
use Rattle.substitution.specs.Images.{images_by, images_of, AreOrdered, AreImages}
use Rattle.substitution.specs.Made.{with_images, AreMade, IsPastAny, capped}
use Rattle.substitution.proofs.Weighed.{sub_push, var_height, app_height, item_in, item_height, item_size}

-- ---- the images stay in a store that keeps them
onto_kept : (old new : List (Tree Variable)) → Keeps old new → (acc : List Binding) (items : List Bound) → AreBound old items → bound_onto new acc items ≡ bound_onto old acc items
onto_kept old new k acc [] h = refl
onto_kept old new k acc (b ∷ more) h =
    let p : binding new b ≡ binding old b = ap (λ t. ((binding old b).0, t)) (keeps_at old new k b.term h.0) in
    ap (λ c. bound_onto new (c ∷ acc) more) p ∙ onto_kept old new k (binding old b ∷ acc) more h.1

pub bound_kept : (old new : List (Tree Variable)) → Keeps old new → (items : List Bound) → AreBound old items → bound new items ≡ bound old items
bound_kept old new k items h = onto_kept old new k [] items h

pub are_bound_kept : (old new : List (Tree Variable)) → Keeps old new → (items : List Bound) → AreBound old items → AreBound new items
are_bound_kept old new k [] h = tt
are_bound_kept old new k (b ∷ bs) h = (keeps_within old new k b.term h.0, are_bound_kept old new k bs h.1)

module _ (old new : List (Tree Variable)) (k : Keeps old new) (m : Images) (h : AreImages old m) where
  pub images_kept : images_of new m ≡ images_of old m
  images_kept = ap (images_by m.kind) (bound_kept old new k m.bindings h.terms)

  pub are_images_kept : AreImages new m
  are_images_kept =
      let P : List Binding → Type 0 = AreOrdered m.kind in
      record { terms = are_bound_kept old new k m.bindings h.terms; order = subst P (sym (bound_kept old new k m.bindings h.terms)) h.order }

  pub with_kept : (t : Tree Variable) → with_images new m t ≡ with_images old m t
  with_kept t = ap (λ (f : Variable → Tree Variable). substituted f t) images_kept

  -- what was made is kept
  pub made_kept : {S : Type 0} (made : HashMap ℕ ℕ S) → AreMade old m made → AreMade new m made
  made_kept made all t r e =
      let p = all t r e in
      let P : Tree Variable → Type 0 = HasTree new r in
      (keeps_within old new k t p.0, subst P (ap (with_images old m) (sym (keeps_at old new k t p.0)) ∙ sym (with_kept (tree_at new t))) (has_tree_kept old new r (with_images old m (tree_at old t)) k p.1))

-- one more that is made
pub made_more : {S : Type 0} (store : List (Tree Variable)) (m : Images) (old new : HashMap ℕ ℕ S) (t r : ℕ) → Updates nat_eq old new t (Some r) → AreMade store m old → t < length store → HasTree store r (with_images store m (tree_at store t)) → AreMade store m new
made_more store m old new t r u h within k n x e = go (nat_eq t n) refl (sym (u.0 n) ∙ e)
  where
    go : (b : Bool) → nat_eq t n ≡ b → cond b (Some r) (get nat_eq old n) ≡ Some x → (n < length store) × HasTree store x (with_images store m (tree_at store n))
    go true q s =
        let back : Option ℕ → ℕ = elim [ None ↦ r | Some y ↦ y ] in
        let P : ℕ → Type 0 = λ y. (n < length store) × HasTree store y (with_images store m (tree_at store n)) in
        let Q : ℕ → Type 0 = λ i. (i < length store) × HasTree store r (with_images store m (tree_at store i)) in
        subst P (ap back s) (subst Q (eqb-true t n q) (within, k))
    go false q s = h n x s

-- ---- a part past a limit takes the whole past it
any_large : (ts : List (Tree Variable)) → IsPastAny ts → (4096 < total_size ts) ⊎ (256 < greatest_depth ts)
any_large [] h = absurd h
any_large (t ∷ ts) (inl (inl h)) = inl (omega (arith, h))
any_large (t ∷ ts) (inl (inr h)) = inr (omega (arith, h))
any_large (t ∷ ts) (inr h) = elim (any_large ts h) [ inl k ↦ inl (omega (arith, k)) | inr k ↦ inr (omega (arith, k)) ]

pub app_large : (name : List ℕ) (ts : List (Tree Variable)) → IsPastAny ts → IsTooLarge (App name ts)
app_large name ts h =
    elim (any_large ts h) [
      | inl k ↦ (let e = size_app name ts in inl (omega (arith, e, k)))
      | inr k ↦ (let e = depth_app name ts in inr (omega (arith, e, k)))
    ]

pub past_at : (f : Variable → Tree Variable) (old : List (Tree Variable)) (terms : List ℕ) (i term : ℕ) → i < length terms → term ≡ get_or terms i term → IsTooLarge (substituted f (tree_at old term)) → IsPastAny (substituted_all f (trees_at old terms))
past_at f old [] i term lt e h = absurd (omega (arith, lt))
past_at f old (x ∷ xs) zero term lt e h = inl (subst (λ t. IsTooLarge (substituted f (tree_at old t))) e h)
past_at f old (x ∷ xs) (suc i) term lt e h = inr (past_at f old xs i term (omega (arith, lt)) e h)

-- ---- one more term
pub built_more : (f : Variable → Tree Variable) (old mid new : List (Tree Variable)) (terms all more : List ℕ) (i one term : ℕ)
    → HaveTrees mid all (substituted_all f (trees_at old (take i terms))) → Keeps old mid → Keeps mid new → i < length terms → AreIn old terms → term ≡ get_or terms i term
    → HasTree new one (substituted f (tree_at mid term)) → more ≡ all ++ one ∷ [] → HaveTrees new more (substituted_all f (trees_at old (take (i + 1) terms)))
built_more f old mid new terms all more i one term have before after within are item has is =
    let done : List (Tree Variable) = trees_at old (take i terms) in
    let trees : substituted_all f (trees_at old (take (i + 1) terms)) ≡ substituted_all f done ++ substituted f (tree_at old term) ∷ [] =
    ap (substituted_all f) (trees_at_more old terms i term within item) ∙ sub_push f done (tree_at old term) in
    let kept : tree_at mid term ≡ tree_at old term = keeps_at old mid before term (item_in old terms i term within item are) in
    let P : List ℕ → Type 0 = λ v. HaveTrees new v (substituted_all f (trees_at old (take (i + 1) terms))) in
    let Q : List (Tree Variable) → Type 0 = HaveTrees new (all ++ one ∷ []) in
    let R : Tree Variable → Type 0 = λ t. HasTree new one (substituted f t) in
    subst P (sym is) (subst Q (sym trees) (have_push mid new all (substituted_all f done) one (substituted f (tree_at old term)) have after (subst R kept has)))

pub if_ok_tree : {E : Type 0} (r : Result ℕ E) (store : List (Tree Variable)) (t u : Tree Variable) → t ≡ u → IfOk r (λ p. HasTree store p t) → IfOk r (λ p. HasTree store p u)
if_ok_tree r store t u e h = let P : Tree Variable → Type 0 = λ v. IfOk r (λ p. HasTree store p v) in subst P e h

-- an error is the same beside other values
pub err_other : {T U E : Type 0} {e x : E} → IsErrOf {T = T} (Err e) x → IsErrOf {T = U} (Err e) x
err_other {T} {U} {E} {e} h = let back : Result T E → E = elim [ Ok y ↦ e | Err y ↦ y ] in ap Err (ap back h)

-- ---- what falls from call to call
capped_low : (n : ℕ) → capped n ≤ 4097
capped_low n = go (nat_lt n 4097) refl
  where
    go : (b : Bool) → nat_lt n 4097 ≡ b → (if b then n else 4097) ≤ 4097
    go true e = grind arith
    go false e = omega arith

capped_below : (n : ℕ) → capped n ≤ n
capped_below n = go (nat_lt n 4097) refl
  where
    go : (b : Bool) → nat_lt n 4097 ≡ b → (if b then n else 4097) ≤ n
    go true e = omega arith
    go false e = grind arith

capped_small : (n : ℕ) → n ≤ 4096 → n ≤ capped n
capped_small n h = go (nat_lt n 4097) refl
  where
    go : (b : Bool) → nat_lt n 4097 ≡ b → n ≤ (if b then n else 4097)
    go true e = omega arith
    go false e = omega (arith, h)

capped_one : (n : ℕ) → 0 < n → 0 < capped n
capped_one n h = go (nat_lt n 4097) refl
  where
    go : (b : Bool) → nat_lt n 4097 ≡ b → 0 < (if b then n else 4097)
    go true e = h
    go false e = omega arith

pub falls_to_variable : (vs : List Variable) (tree : Tree Variable) (v : Variable) (t : ℕ) → tree ≡ Var v → 8200 * height vs tree + 2 * capped (size tree) ≡ t → 8200 * height_of vs v + 1 < t
falls_to_variable vs tree v t is e =
    let h = var_height vs tree v is in
    let c = capped_one (size tree) (size_positive tree) in
    omega (arith, h, c, e)

pub falls_to_term : (vs : List Variable) (tree : Tree Variable) (v : Variable) (place t : ℕ) → height_of vs v ≡ suc place → height vs tree ≤ place → 8200 * height_of vs v + 1 ≡ t → 8200 * height vs tree + 2 * capped (size tree) < t
falls_to_term vs tree v place t is low e = let c = capped_low (size tree) in omega (arith, is, low, c, e)

pub falls_to_arguments : (vs : List Variable) (tree : Tree Variable) (name : List ℕ) (ts : List (Tree Variable)) (t : ℕ) → tree ≡ App name ts → IsSmall tree → 8200 * height vs tree + 2 * capped (size tree) ≡ t → 8200 * greatest_height vs (variables_in ts) + (2 * total_size ts + 1) < t
falls_to_arguments vs tree name ts t is small e =
    let h = app_height vs tree name ts is in
    let s = ap size is ∙ size_app name ts in
    let c = capped_small (size tree) small.size in
    omega (arith, h, s, c, e)

pub falls_to_one : (vs : List Variable) (old mid : List (Tree Variable)) → Keeps old mid → (terms : List ℕ) (i term : ℕ) (t : ℕ) → i < length terms → AreIn old terms → term ≡ get_or terms i term
    → 8200 * greatest_height vs (variables_in (trees_at old terms)) + (2 * total_size (trees_at old terms) + 1) ≡ t → 8200 * height vs (tree_at mid term) + 2 * capped (size (tree_at mid term)) < t
falls_to_one vs old mid k terms i term t lt are item e =
    let same = keeps_at old mid k term (item_in old terms i term lt item are) in
    let h = item_height vs old terms i term lt item in
    let s = item_size old terms i term lt item in
    let c = capped_below (size (tree_at mid term)) in
    let p : height vs (tree_at mid term) ≡ height vs (tree_at old term) = ap (height vs) same in
    let q : size (tree_at mid term) ≡ size (tree_at old term) = ap size same in
    omega (arith, h, s, c, p, q, e)
