-- Putting images in makes no tree smaller.
use Rattle.std.proofs.Common.{◌≡◌, ℕ, zero, suc, ◌+◌, ◌<◌, ◌≤◌, List, [], ◌∷◌, ◌++◌, length, take, get_or, refl, ap, ◌∙◌, sym, subst, arith, inl, inr}
use Rattle.std.proofs.lemmas.List.{take_more, take_all}
use Rattle.clp_model.specs.declared.sort.Sort.{Sort}
use Rattle.clp_model.specs.declared.tree.Variable.{Variable}
use Rattle.clp_model.specs.declared.tree.Tree.{Tree, Var, App', Row_of-Tree, end_of-Tree, more_of-Tree}
use Rattle.clp_model.specs.Trees.{size, sizes, depth, depths, total_size, greatest_depth}
use Rattle.clp_model.proofs.Trees.{size_mapped, depth_mapped, size_positive, depth_positive}
use Rattle.unify_model.specs.Substituting.{substituted, substituted_row}
use Rattle.clause_model.specs.Solved.{typed_variable, typed}
use Rattle.term_store.specs.Trees.{tree_at, HasTree, HaveTrees, Keeps, IsOver, IsTooLarge}
use Rattle.term_store.proofs.Keeping.{have_push}
use Rattle.substitution.specs.declared.subst.Subst.{Subst}
use Rattle.substitution.specs.Weights.{IsOf, images}
use Rattle.substitution.specs.Made.{IsPastAny}
use Rattle.substitution.proofs.Kept.{same_images}
use Rattle.clause_loader.specs.Carried.{with_images, all_with_images}
use Rattle.clause_loader.proofs.Typed.{over_more}

mutual
  unfolding substituted size

  size_grows : (f : Variable → Tree Variable) (t : Tree Variable) → size t ≤ size (substituted f t)
  size_grows f (Var v) = size_positive (f v)
  size_grows f (App' name shape args) = omega (arith, sizes_grow f args)

  sizes_grow : {m : _} (f : Variable → Tree Variable) (ts : Row_of-Tree Variable m) → sizes ts ≤ sizes (substituted_row f ts)
  sizes_grow f end_of-Tree = omega arith
  sizes_grow f (more_of-Tree t ts) = omega (arith, size_grows f t, sizes_grow f ts)

mutual
  unfolding substituted depth

  depth_grows : (f : Variable → Tree Variable) (t : Tree Variable) → depth t ≤ depth (substituted f t)
  depth_grows f (Var v) = depth_positive (f v)
  depth_grows f (App' name shape args) = omega (arith, depths_grow f args)

  depths_grow : {m : _} (f : Variable → Tree Variable) (ts : Row_of-Tree Variable m) → depths ts ≤ depths (substituted_row f ts)
  depths_grow f end_of-Tree = omega arith
  depths_grow f (more_of-Tree t ts) = omega (arith, depth_grows f t, depths_grow f ts)

-- a tree that is too large stays so
pub stays_large : (sorts : List Sort) (f : Variable → Tree Variable) (t : Tree ℕ) → IsOver (size t) (depth t) → IsTooLarge (with_images sorts f t)
stays_large sorts f t h =
    over_more _ _ _ _
    (omega (arith, size_mapped (typed_variable sorts) t, size_grows f (typed sorts t)))
    (omega (arith, depth_mapped (typed_variable sorts) t, depth_grows f (typed sorts t))) h

module _ (old mid : List (Tree Variable)) (k : Keeps old mid) (s : Subst) (of : IsOf old s) (sorts : List Sort) (t : Tree ℕ) (term : ℕ) (is : HasTree mid term (typed sorts t)) where
  pub same_tree : substituted (images mid s) (tree_at mid term) ≡ with_images sorts (images old s) t
  same_tree =
      ap (substituted (images mid s)) is.is
      ∙ ap (λ (f : Variable → Tree Variable). substituted f (typed sorts t)) (same_images old mid k s of)

  pub has_images : (new : List (Tree Variable)) (r : ℕ) → HasTree new r (substituted (images mid s) (tree_at mid term)) → HasTree new r (with_images sorts (images old s) t)
  has_images new r h = let P : Tree Variable → Type 0 = HasTree new r in subst P same_tree h

  pub large_images : IsTooLarge (substituted (images mid s) (tree_at mid term)) → IsTooLarge (with_images sorts (images old s) t)
  large_images h = subst IsTooLarge same_tree h

-- ---- several trees
images_push : (sorts : List Sort) (f : Variable → Tree Variable) (ts : List (Tree ℕ)) (t : Tree ℕ) → all_with_images sorts f (ts ++ t ∷ []) ≡ all_with_images sorts f ts ++ with_images sorts f t ∷ []
images_push sorts f [] t = refl
images_push sorts f (u ∷ ts) t = ap (λ (v : List (Tree Variable)). with_images sorts f u ∷ v) (images_push sorts f ts t)

pub images_more : (sorts : List Sort) (f : Variable → Tree Variable) (old new : List (Tree Variable)) (trees : List (Tree ℕ)) (terms more : List ℕ) (i p : ℕ) (tree : Tree ℕ)
    → HaveTrees old terms (all_with_images sorts f (take i trees)) → Keeps old new → i < length trees → tree ≡ get_or trees i tree → HasTree new p (with_images sorts f tree)
    → more ≡ terms ++ p ∷ [] → HaveTrees new more (all_with_images sorts f (take (i + 1) trees))
images_more sorts f old new trees terms more i p tree have keeps within item has is =
    let done : List (Tree Variable) = all_with_images sorts f (take i trees) in
    let all : all_with_images sorts f (take (i + 1) trees) ≡ done ++ with_images sorts f tree ∷ [] =
    ap (all_with_images sorts f) (take_more trees i tree within ∙ ap (λ (t : Tree ℕ). take i trees ++ t ∷ []) (sym item)) ∙ images_push sorts f (take i trees) tree in
    let P : List ℕ → Type 0 = λ v. HaveTrees new v (all_with_images sorts f (take (i + 1) trees)) in
    let Q : List (Tree Variable) → Type 0 = HaveTrees new (terms ++ p ∷ []) in
    subst P (sym is) (subst Q (sym all) (have_push old new terms done p (with_images sorts f tree) have keeps has))

pub images_end : (sorts : List Sort) (f : Variable → Tree Variable) (store : List (Tree Variable)) (trees : List (Tree ℕ)) (i : ℕ) (terms : List ℕ) → length trees ≤ i
    → HaveTrees store terms (all_with_images sorts f (take i trees)) → HaveTrees store terms (all_with_images sorts f trees)
images_end sorts f store trees i terms end h =
    let P : List (Tree ℕ) → Type 0 = λ ts. HaveTrees store terms (all_with_images sorts f ts) in
    subst P (take_all i trees end) h

past_get : (sorts : List Sort) (f : Variable → Tree Variable) (ts : List (Tree ℕ)) (i : ℕ) (d : Tree ℕ) → i < length ts → IsTooLarge (with_images sorts f (get_or ts i d)) → IsPastAny (all_with_images sorts f ts)
past_get sorts f [] i d w h = absurd (omega arith)
past_get sorts f (t ∷ ts) zero d w h = inl h
past_get sorts f (t ∷ ts) (suc i) d w h = inr (past_get sorts f ts i d (omega arith) h)

pub past_at : (sorts : List Sort) (f : Variable → Tree Variable) (ts : List (Tree ℕ)) (i : ℕ) (t : Tree ℕ) → i < length ts → t ≡ get_or ts i t → IsTooLarge (with_images sorts f t) → IsPastAny (all_with_images sorts f ts)
past_at sorts f ts i t within item h =
    let P : Tree ℕ → Type 0 = λ u. IsTooLarge (with_images sorts f u) in
    past_get sorts f ts i t within (subst P item h)

pub any_over : (ts : List (Tree Variable)) → IsPastAny ts → IsOver (total_size ts) (greatest_depth ts)
any_over [] h = absurd h
any_over (t ∷ ts) (inl (inl h)) = inl (omega (arith, h))
any_over (t ∷ ts) (inl (inr h)) = inr (omega (arith, h))
any_over (t ∷ ts) (inr h) = elim (any_over ts h) [ inl k ↦ inl (omega (arith, k)) | inr k ↦ inr (omega (arith, k)) ]
