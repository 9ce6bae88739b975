-- Terms in which one variable stands in the place of another.
use Rattle.std.proofs.Common.{◌≡◌, ℕ, ◌+◌, ◌*◌, ◌<◌, List, [], ◌∷◌, ◌++◌, length, take, get_or, refl, ap, ◌∙◌, sym, subst, arith}
use Rattle.clp_model.specs.declared.sort.Sort.{Sort}
use Rattle.clp_model.specs.declared.tree.Variable.{Variable}
use Rattle.clp_model.specs.declared.tree.Tree.{Tree, App}
use Rattle.clp_model.specs.Trees.{size, total_size, mapped, mapped_all}
use Rattle.clp_model.proofs.Trees.{mapped_app, mapped_var, size_app, size_mapped, depth_mapped}
use Rattle.term_store.specs.Trees.{variable, tree_at, trees_at, HasTree, HaveTrees, Keeps, IsSmall}
use Rattle.term_store.proofs.Keeping.{have_push, trees_at_more}
use Rattle.substitution.proofs.Weighed.{item_size}
use Rattle.replace_model.specs.Rows.{replacing}
use Rattle.rules_rows.specs.Replaced.{with_other}

module _ (v w : ℕ) where
  pub other_var : (tree : Tree Variable) (n : ℕ) (s : Sort) → tree ≡ variable n s → mapped (with_other v w) tree ≡ variable (replacing v w n) s
  other_var tree n s is = ap (mapped (with_other v w)) is ∙ mapped_var (with_other v w) (record { number = n; sort = s })

  pub other_app : (tree : Tree Variable) (name : List ℕ) (ts : List (Tree Variable)) → tree ≡ App name ts → mapped (with_other v w) tree ≡ App name (mapped_all (with_other v w) ts)
  other_app tree name ts is = ap (mapped (with_other v w)) is ∙ mapped_app (with_other v w) name ts

  small_mapped : (tree : Tree Variable) → IsSmall tree → IsSmall (mapped (with_other v w) tree)
  small_mapped tree h = record {
    size = omega (arith, h.size, size_mapped (with_other v w) tree);
    depth = omega (arith, h.depth, depth_mapped (with_other v w) tree);
  }

  -- an application stays within the limits
  pub small_app : (tree : Tree Variable) (name : List ℕ) (ts us : List (Tree Variable)) → tree ≡ App name ts → IsSmall tree → us ≡ mapped_all (with_other v w) ts → IsSmall (App name us)
  small_app tree name ts us is small e =
      let P : Tree Variable → Type 0 = IsSmall in
      subst P (other_app tree name ts is ∙ ap (App name) (sym e)) (small_mapped tree small)

-- ---- one more term
mapped_push : (f : Variable → Variable) (ts : List (Tree Variable)) (t : Tree Variable) → mapped_all f (ts ++ t ∷ []) ≡ mapped_all f ts ++ mapped f t ∷ []
mapped_push f [] t = refl
mapped_push f (u ∷ ts) t = ap (λ v. mapped f u ∷ v) (mapped_push f ts t)

pub replaced_more : (f : Variable → Variable) (from mid new : List (Tree Variable)) (terms all more : List ℕ) (i one term : ℕ)
    → HaveTrees mid all (mapped_all f (trees_at from (take i terms))) → Keeps mid new → i < length terms → term ≡ get_or terms i term
    → HasTree new one (mapped f (tree_at from term)) → more ≡ all ++ one ∷ [] → HaveTrees new more (mapped_all f (trees_at from (take (i + 1) terms)))
replaced_more f from mid new terms all more i one term have after within item has is =
    let done : List (Tree Variable) = trees_at from (take i terms) in
    let trees : mapped_all f (trees_at from (take (i + 1) terms)) ≡ mapped_all f done ++ mapped f (tree_at from term) ∷ [] =
    ap (mapped_all f) (trees_at_more from terms i term within item) ∙ mapped_push f done (tree_at from term) in
    let P : List ℕ → Type 0 = λ v. HaveTrees new v (mapped_all f (trees_at from (take (i + 1) terms))) in
    let Q : List (Tree Variable) → Type 0 = HaveTrees new (all ++ one ∷ []) in
    subst P (sym is) (subst Q (sym trees) (have_push mid new all (mapped_all f done) one (mapped f (tree_at from term)) have after has))

-- ---- what falls from call to call
pub falls_to_arguments : (tree : Tree Variable) (name : List ℕ) (ts : List (Tree Variable)) (t : ℕ) → tree ≡ App name ts → 2 * size tree ≡ t → 2 * total_size ts + 1 < t
falls_to_arguments tree name ts t is e = let s = ap size is ∙ size_app name ts in omega (arith, s, e)

pub falls_to_one : (store : List (Tree Variable)) (terms : List ℕ) (i term : ℕ) (t : ℕ) → i < length terms → term ≡ get_or terms i term → 2 * total_size (trees_at store terms) + 1 ≡ t → 2 * size (tree_at store term) < t
falls_to_one store terms i term t within item e = let s = item_size store terms i term within item in omega (arith, s, e)
