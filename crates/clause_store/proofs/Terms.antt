-- Terms that are renamed one after another.
use Rattle.std.proofs.Common.{◌≡◌, ℕ, ◌+◌, ◌<◌, List, [], ◌∷◌, ◌++◌, length, take, drop, get_or, Result, IfOk, refl, ap, ◌∙◌, sym, subst, arith}
use Rattle.std.proofs.Math.Seq.{drop-cons}
use Rattle.clp_model.specs.declared.sort.Sort.{Sort}
use Rattle.clp_model.specs.declared.tree.Variable.{Variable}
use Rattle.clp_model.specs.declared.tree.Tree.{Tree, App}
use Rattle.clp_model.specs.Trees.{mapped, mapped_all}
use Rattle.clp_model.specs.Canonical.{place_in}
use Rattle.clp_model.proofs.Trees.{mapped_app, mapped_var, size_mapped, depth_mapped}
use Rattle.term_store.specs.Trees.{variable, tree_at, trees_at, AreIn, HasTree, HaveTrees, Keeps, IsSmall}
use Rattle.term_store.proofs.Keeping.{keeps_at, have_push, trees_at_more}
use Rattle.clause_store.specs.Stored.{renumber}

pub renamed_var : (met : List ℕ) (tree : Tree Variable) (n : ℕ) (s : Sort) → tree ≡ variable n s → mapped (renumber met) tree ≡ variable (place_in met n) s
renamed_var met tree n s is = ap (mapped (renumber met)) is ∙ mapped_var (renumber met) (record { number = n; sort = s })

pub renamed_app : (met : List ℕ) (tree : Tree Variable) (name : List ℕ) (ts : List (Tree Variable)) → tree ≡ App name ts → mapped (renumber met) tree ≡ App name (mapped_all (renumber met) ts)
renamed_app met tree name ts is = ap (mapped (renumber met)) is ∙ mapped_app (renumber met) name ts

small_mapped : (met : List ℕ) (tree : Tree Variable) → IsSmall tree → IsSmall (mapped (renumber met) tree)
small_mapped met tree h = record {
  size = omega (arith, h.size, size_mapped (renumber met) tree);
  depth = omega (arith, h.depth, depth_mapped (renumber met) tree);
}

-- an application stays within the limits
pub small_app : (met : List ℕ) (tree : Tree Variable) (name : List ℕ) (ts us : List (Tree Variable)) → tree ≡ App name ts → IsSmall tree → us ≡ mapped_all (renumber met) ts → IsSmall (App name us)
small_app met tree name ts us is small e =
    let P : Tree Variable → Type 0 = IsSmall in
    subst P (renamed_app met tree name ts is ∙ ap (App name) (sym e)) (small_mapped met tree small)

-- the next term is of the store
pub next_in : (store : List (Tree Variable)) (terms : List ℕ) (i term : ℕ) → i < length terms → AreIn store (drop i terms) → term ≡ get_or terms i term → term < length store
next_in store terms i term within all item =
    let P : List ℕ → Type 0 = AreIn store in
    let Q : ℕ → Type 0 = λ t. t < length store in
    subst Q (sym item) (subst P (drop-cons terms i term within) all).0

mapped_push : (f : Variable → Variable) (ts : List (Tree Variable)) (t : Tree Variable) → mapped_all f (ts ++ t ∷ []) ≡ mapped_all f ts ++ mapped f t ∷ []
mapped_push f [] t = refl
mapped_push f (u ∷ ts) t = ap (λ v. mapped f u ∷ v) (mapped_push f ts t)

-- one more term
pub renamed_more : (f : Variable → Variable) (old mid new : List (Tree Variable)) (terms all more : List ℕ) (i one term : ℕ)
    → HaveTrees mid all (mapped_all f (trees_at old (take i terms))) → Keeps old mid → Keeps mid new → i < length terms → AreIn old (drop i terms) → term ≡ get_or terms i term
    → HasTree new one (mapped f (tree_at mid term)) → more ≡ all ++ one ∷ [] → HaveTrees new more (mapped_all f (trees_at old (take (i + 1) terms)))
renamed_more f old mid new terms all more i one term have before after within rest item has is =
    let done : List (Tree Variable) = trees_at old (take i terms) in
    let trees : mapped_all f (trees_at old (take (i + 1) terms)) ≡ mapped_all f done ++ mapped f (tree_at old term) ∷ [] =
    ap (mapped_all f) (trees_at_more old terms i term within item) ∙ mapped_push f done (tree_at old term) in
    let kept : tree_at mid term ≡ tree_at old term = keeps_at old mid before term (next_in old terms i term within rest item) in
    let P : List ℕ → Type 0 = λ v. HaveTrees new v (mapped_all f (trees_at old (take (i + 1) terms))) in
    let Q : List (Tree Variable) → Type 0 = HaveTrees new (all ++ one ∷ []) in
    let R : Tree Variable → Type 0 = λ t. HasTree new one (mapped f t) in
    subst P (sym is) (subst Q (sym trees) (have_push mid new all (mapped_all f done) one (mapped f (tree_at old term)) have after (subst R kept has)))

pub if_ok_tree : {E : Type 0} (r : Result ℕ E) (store : List (Tree Variable)) (t u : Tree Variable) → t ≡ u → IfOk r (λ p. HasTree store p t) → IfOk r (λ p. HasTree store p u)
if_ok_tree r store t u e h = let P : Tree Variable → Type 0 = λ v. IfOk r (λ p. HasTree store p v) in subst P e h
