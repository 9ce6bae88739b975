-- The weights of variables, of applications and of terms beside one another.
use Rattle.std.proofs.Common.{◌≡◌, ℕ, zero, suc, ◌+◌, ◌<◌, ◌≤◌, List, [], ◌∷◌, ◌++◌, refl, ap, ◌∙◌, sym, subst, arith, inl, inr, Option, Some, None, Bool, true, false, cond, max, length, take, get_or, length-append}
use Rattle.std.proofs.lemmas.List.{get_or_push}
use Rattle.std.proofs.Math.ListN.{get_or-append}
use Rattle.std.proofs.lemmas.Bool.{eqb-true}
use Rattle.std.specs.Prelude.{nat_eq, nat_lt}
use Rattle.std.specs.HashMap.{HashMap, get, Updates}
use Rattle.clp_model.specs.declared.tree.Variable.{Variable}
use Rattle.clp_model.specs.declared.tree.Tree.{Tree, Var, App}
use Rattle.clp_model.specs.Trees.{size, depth, total_size, greatest_depth, variables, variables_in}
use Rattle.clp_model.proofs.Trees.{size_app, depth_app, size_var, depth_var, variables_app, variables_var}
use Rattle.clp_model.proofs.Membership.{Among, first, next}
use Rattle.term_store.specs.Trees.{tree_at, trees_at, AreIn, IsOver, IsTooLarge}
use Rattle.term_store.proofs.Keeping.{trees_at_more}
use Rattle.unify_model.specs.Substituting.{substituted, substituted_all}
use Rattle.unify_laws.proofs.Applications.{substituted_app, substituted_var}
use Rattle.substitution.specs.declared.bindings.Bound.{Bound}
use Rattle.substitution.specs.declared.weighing.Weight.{Weight}
use Rattle.substitution.proofs.Places.{count_is, height_within}
use Rattle.substitution.specs.Bindings.{bound_variables, height_of, greatest_height, height}
use Rattle.substitution.specs.Weights.{AreMeasures, HasMeasures, Weighs, WeighAll, weight_at, HaveWeights, AreNoted}

-- ---- two weights
pub beside_none : (all : Weight) (nodes levels : ℕ) (t : Tree Variable) → AreMeasures all nodes levels → Weighs None t → IsOver (nodes + size t) (max levels (depth t))
beside_none all nodes levels t a h = elim h [ inl k ↦ inl (omega (arith, k)) | inr k ↦ inr (omega (arith, k)) ]

pub beside_large : (all one : Weight) (nodes levels : ℕ) (t : Tree Variable) → AreMeasures all nodes levels → Weighs (Some one) t → 4096 < all.size + one.size → IsOver (nodes + size t) (max levels (depth t))
beside_large all one nodes levels t a h k = let p = a.nodes_are in let q = h.nodes_are in inl (omega (arith, k, p, q))

pub beside_is : (all one : Weight) (nodes levels : ℕ) (t : Tree Variable) → AreMeasures all nodes levels → Weighs (Some one) t → all.size + one.size ≤ 4096
    → AreMeasures (record { size = all.size + one.size; depth = max all.depth one.depth }) (nodes + size t) (max levels (depth t))
beside_is all one nodes levels t a h k =
    let p = a.nodes_are in
    let q = h.nodes_are in
    let r = a.levels_are in
    let s = h.levels_are in
    let x = a.flat in
    let y = h.flat in
    record { nodes_are = omega (arith, p, q); levels_are = rw r (rw s refl); few = k; flat = omega (arith, x, y) }

pub above_none : (name : List ℕ) (ts : List (Tree Variable)) → WeighAll None ts → Weighs None (App name ts)
above_none name ts h =
    let e = size_app name ts in
    let d = depth_app name ts in
    elim h [ inl k ↦ inl (omega (arith, e, k)) | inr k ↦ inr (omega (arith, d, k)) ]

pub above_large : (w : Weight) (name : List ℕ) (ts : List (Tree Variable)) → WeighAll (Some w) ts → 4096 ≤ w.size → Weighs None (App name ts)
above_large w name ts h k = let e = size_app name ts in let p = h.nodes_are in inl (omega (arith, e, k, p))

pub above_deep : (w : Weight) (name : List ℕ) (ts : List (Tree Variable)) → WeighAll (Some w) ts → 256 ≤ w.depth → Weighs None (App name ts)
above_deep w name ts h k = let e = depth_app name ts in let p = h.levels_are in inr (omega (arith, e, k, p))

pub above_is : (w : Weight) (name : List ℕ) (ts : List (Tree Variable)) → WeighAll (Some w) ts → w.size < 4096 → w.depth < 256 → Weighs (Some (record { size = w.size + 1; depth = w.depth + 1 })) (App name ts)
above_is w name ts h k l =
    let e = size_app name ts in
    let d = depth_app name ts in
    let p = h.nodes_are in
    let q = h.levels_are in
    record { nodes_are = omega (arith, e, p); levels_are = omega (arith, d, q); few = omega (arith, k); flat = omega (arith, l) }

pub weighs_var : (v : Variable) → Weighs (Some (record { size = 1; depth = 1 })) (Var v)
weighs_var v = record { nodes_are = size_var v; levels_are = depth_var v; few = omega arith; flat = omega arith }

-- ---- a variable and an application with the images in them
pub sub_var : (f : Variable → Tree Variable) (tree : Tree Variable) (v : Variable) → tree ≡ Var v → substituted f tree ≡ f v
sub_var f tree v is = ap (substituted f) is ∙ substituted_var f v

pub sub_app : (f : Variable → Tree Variable) (tree : Tree Variable) (name : List ℕ) (ts : List (Tree Variable)) → tree ≡ App name ts → substituted f tree ≡ App name (substituted_all f ts)
sub_app f tree name ts is = ap (substituted f) is ∙ substituted_app f name ts

-- ---- heights
pub var_height : (vs : List Variable) (tree : Tree Variable) (v : Variable) → tree ≡ Var v → height vs tree ≡ height_of vs v
var_height vs tree v is = let e = ap (greatest_height vs) (ap variables is ∙ variables_var v) in omega (arith, e)

pub app_height : (vs : List Variable) (tree : Tree Variable) (name : List ℕ) (ts : List (Tree Variable)) → tree ≡ App name ts → height vs tree ≡ greatest_height vs (variables_in ts)
app_height vs tree name ts is = ap (greatest_height vs) (ap variables is ∙ variables_app name ts)

height_both : (vs ws us : List Variable) → greatest_height vs (ws ++ us) ≡ max (greatest_height vs ws) (greatest_height vs us)
height_both vs [] us = omega arith
height_both vs (w ∷ ws) us = let e = height_both vs ws us in omega (arith, e)

pub each_height : (vs ws : List Variable) (n : ℕ) → ((w : Variable) → Among w ws → height_of vs w ≤ n) → greatest_height vs ws ≤ n
each_height vs [] n h = omega arith
each_height vs (w ∷ ws) n h = let a = h w first in let b = each_height vs ws n (λ v m. h v (next m)) in omega (arith, a, b)

-- ---- one of several terms
pub item_in : (store : List (Tree Variable)) (terms : List ℕ) (i term : ℕ) → i < length terms → term ≡ get_or terms i term → AreIn store terms → term < length store
item_in store [] i term lt e h = absurd (omega (arith, lt))
item_in store (x ∷ xs) zero term lt e h = let k = h.0 in omega (arith, e, k)
item_in store (x ∷ xs) (suc i) term lt e h = item_in store xs i term (omega (arith, lt)) e h.1

pub item_height : (vs : List Variable) (store : List (Tree Variable)) (terms : List ℕ) (i term : ℕ) → i < length terms → term ≡ get_or terms i term → height vs (tree_at store term) ≤ greatest_height vs (variables_in (trees_at store terms))
item_height vs store [] i term lt e = absurd (omega (arith, lt))
item_height vs store (x ∷ xs) zero term lt e =
    let q : height vs (tree_at store term) ≡ height vs (tree_at store x) = ap (λ z. height vs (tree_at store z)) e in
    let p = height_both vs (variables (tree_at store x)) (variables_in (trees_at store xs)) in
    omega (arith, p, q)
item_height vs store (x ∷ xs) (suc i) term lt e =
    let h = item_height vs store xs i term (omega (arith, lt)) e in
    let p = height_both vs (variables (tree_at store x)) (variables_in (trees_at store xs)) in
    omega (arith, p, h)

pub item_size : (store : List (Tree Variable)) (terms : List ℕ) (i term : ℕ) → i < length terms → term ≡ get_or terms i term → size (tree_at store term) ≤ total_size (trees_at store terms)
item_size store [] i term lt e = absurd (omega (arith, lt))
item_size store (x ∷ xs) zero term lt e = let q : size (tree_at store term) ≡ size (tree_at store x) = ap (λ z. size (tree_at store z)) e in omega (arith, q)
item_size store (x ∷ xs) (suc i) term lt e = let h = item_size store xs i term (omega (arith, lt)) e in omega (arith, h)

-- ---- the terms up to one
pub sub_push : (f : Variable → Tree Variable) (ts : List (Tree Variable)) (t : Tree Variable) → substituted_all f (ts ++ t ∷ []) ≡ substituted_all f ts ++ substituted f t ∷ []
sub_push f [] t = refl
sub_push f (u ∷ ts) t = ap (λ v. substituted f u ∷ v) (sub_push f ts t)

size_push : (ts : List (Tree Variable)) (t : Tree Variable) → total_size (ts ++ t ∷ []) ≡ total_size ts + size t
size_push [] t = omega arith
size_push (u ∷ ts) t = let e = size_push ts t in omega (arith, e)

depth_push : (ts : List (Tree Variable)) (t : Tree Variable) → greatest_depth (ts ++ t ∷ []) ≡ max (greatest_depth ts) (depth t)
depth_push [] t = omega arith
depth_push (u ∷ ts) t = let e = depth_push ts t in omega (arith, e)

module _ (f : Variable → Tree Variable) (store : List (Tree Variable)) (terms : List ℕ) where
  abbrev pub upto : ℕ → List (Tree Variable)
  upto i = substituted_all f (trees_at store (take i terms))

  upto_more : (i term : ℕ) → i < length terms → term ≡ get_or terms i term → upto (i + 1) ≡ upto i ++ substituted f (tree_at store term) ∷ []
  upto_more i term lt e = ap (substituted_all f) (trees_at_more store terms i term lt e) ∙ sub_push f (trees_at store (take i terms)) (tree_at store term)

  pub one_more : (o : _) (i term : ℕ) → i < length terms → term ≡ get_or terms i term
      → HasMeasures o (total_size (upto i) + size (substituted f (tree_at store term))) (max (greatest_depth (upto i)) (depth (substituted f (tree_at store term)))) → WeighAll o (upto (i + 1))
  one_more o i term lt e h =
      let P : ℕ → Type 0 = λ m. HasMeasures o m (greatest_depth (upto (i + 1))) in
      let Q : ℕ → Type 0 = λ n. HasMeasures o (total_size (upto i) + size (substituted f (tree_at store term))) n in
      subst P (sym (ap total_size (upto_more i term lt e) ∙ size_push (upto i) (substituted f (tree_at store term))))
      (subst Q (sym (ap greatest_depth (upto_more i term lt e) ∙ depth_push (upto i) (substituted f (tree_at store term)))) h)

upto_size : (f : Variable → Tree Variable) (store : List (Tree Variable)) (terms : List ℕ) (i : ℕ) → total_size (substituted_all f (trees_at store (take i terms))) ≤ total_size (substituted_all f (trees_at store terms))
upto_size f store [] zero = omega arith
upto_size f store [] (suc i) = omega arith
upto_size f store (x ∷ xs) zero = omega arith
upto_size f store (x ∷ xs) (suc i) = let h = upto_size f store xs i in omega (arith, h)

upto_depth : (f : Variable → Tree Variable) (store : List (Tree Variable)) (terms : List ℕ) (i : ℕ) → greatest_depth (substituted_all f (trees_at store (take i terms))) ≤ greatest_depth (substituted_all f (trees_at store terms))
upto_depth f store [] zero = omega arith
upto_depth f store [] (suc i) = omega arith
upto_depth f store (x ∷ xs) zero = omega arith
upto_depth f store (x ∷ xs) (suc i) = let h = upto_depth f store xs i in omega (arith, h)

-- what is past a limit up to one term is so with all
pub over_all : (f : Variable → Tree Variable) (store : List (Tree Variable)) (terms : List ℕ) (i : ℕ) → WeighAll None (substituted_all f (trees_at store (take i terms))) → WeighAll None (substituted_all f (trees_at store terms))
over_all f store terms i h =
    let a = upto_size f store terms i in
    let b = upto_depth f store terms i in
    elim h [ inl k ↦ inl (omega (arith, a, k)) | inr k ↦ inr (omega (arith, b, k)) ]

-- one more weight that is noted
pub note_more : {S : Type 0} (store : List (Tree Variable)) (f : Variable → Tree Variable) (old new : HashMap ℕ (Option Weight) S) (t : ℕ) (w : Option Weight) → Updates nat_eq old new t (Some w) → AreNoted store f old → Weighs w (substituted f (tree_at store t)) → AreNoted store f new
note_more store f old new t w u h k n x e = go (nat_eq t n) refl (sym (u.0 n) ∙ e)
  where
    go : (b : Bool) → nat_eq t n ≡ b → cond b (Some w) (get nat_eq old n) ≡ Some x → Weighs x (substituted f (tree_at store n))
    go true q r =
        let back : Option (Option Weight) → Option Weight = elim [ None ↦ w | Some y ↦ y ] in
        let P : Option Weight → Type 0 = λ y. Weighs y (substituted f (tree_at store n)) in
        let Q : ℕ → Type 0 = λ m. Weighs w (substituted f (tree_at store m)) in
        subst P (ap back r) (subst Q (eqb-true t n q) k)
    go false q r = h n x r

-- ---- the weights of the bindings
pub weights_more : (f : Variable → Tree Variable) (vs : List Variable) (ws : List (Option Weight)) (w : Option Weight) → HaveWeights f vs ws → ((v : Variable) → height_of vs v ≡ suc (length ws) → Weighs w (f v)) → HaveWeights f vs (ws ++ w ∷ [])
weights_more f vs ws w h k v place e lt = go (nat_lt place (length ws)) refl
  where
    P : Option Weight → Type 0
    P o = Weighs o (f v)

    count : length (ws ++ w ∷ []) ≡ suc (length ws)
    count = let n = length-append ws (w ∷ []) in omega (arith, n)

    go : (b : Bool) → nat_lt place (length ws) ≡ b → Weighs (weight_at (ws ++ w ∷ []) place) (f v)
    go true q = let l : place < length ws = grind arith in subst P (sym (get_or-append ws (w ∷ []) None place l)) (h v place e l)
    go false q =
        let m : length ws ≤ place = grind arith in
        let l : length ws ≡ place = omega (arith, m, lt, count) in
        subst P (sym (get_or_push ws w None place l)) (k v (e ∙ ap suc (sym l)))

module _ (f : Variable → Tree Variable) (vs : List Variable) (ws more : List (Option Weight)) (w : Option Weight) (place : ℕ) (is : more ≡ ws ++ w ∷ []) (count : length ws ≡ place) where
  pub one_more_weight : HaveWeights f vs ws → ((v : Variable) → height_of vs v ≡ suc place → Weighs w (f v)) → HaveWeights f vs more
  one_more_weight h k =
      let P : List (Option Weight) → Type 0 = HaveWeights f vs in
      subst P (sym is) (weights_more f vs ws w h (λ v e. k v (e ∙ ap suc count)))

  pub more_count : length more ≡ place + 1
  more_count = let n = ap length is in let l = length-append ws (w ∷ []) in omega (arith, n, l, count)

-- what is weighed is within the limits
pub not_large : (w : Weight) (t : Tree Variable) → Weighs (Some w) t → IsTooLarge t → ⊥
not_large w t h (inl k) = let p = h.nodes_are in let q = h.few in absurd (omega (arith, k, p, q))
not_large w t h (inr k) = let p = h.levels_are in let q = h.flat in absurd (omega (arith, k, p, q))

-- no tree reaches higher than the bindings
pub height_low : (items : List Bound) (t : Tree Variable) → height (bound_variables items) t ≤ length items
height_low items t =
    let n = count_is items in
    let h = each_height (bound_variables items) (variables t) (length (bound_variables items)) (λ w m. height_within (bound_variables items) w) in
    omega (arith, n, h)
