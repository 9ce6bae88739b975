-- Terms whose variables are renumbered one after another.
use Rattle.std.proofs.Common.{◌≡◌, ℕ, zero, suc, ◌+◌, ◌*◌, ◌<◌, ◌≤◌, List, [], ◌∷◌, ◌++◌, length, take, get_or, Result, IfOk, refl, ap, ◌∙◌, sym, subst, arith}
use Rattle.clp_model.specs.declared.sort.Sort.{Sort}
use Rattle.clp_model.specs.declared.tree.Variable.{Variable}
use Rattle.clp_model.specs.declared.tree.Tree.{Tree, App}
use Rattle.clp_model.specs.Trees.{size, total_size, mapped, mapped_all, variables, variables_in}
use Rattle.clp_model.proofs.Trees.{mapped_app, mapped_var, size_app, size_mapped, depth_mapped, variables_app, variables_var}
use Rattle.clp_model.proofs.Membership.{Among, first, among_front, among_back}
use Rattle.clause_laws.proofs.Rows.{all_each, each_all}
use Rattle.term_store.specs.Trees.{variable, tree_at, trees_at, HasTree, HaveTrees, Keeps, IsSmall}
use Rattle.term_store.proofs.Keeping.{have_push, trees_at_more}
use Rattle.substitution.proofs.Weighed.{item_size}
use Rattle.clause_resolvent.specs.Raised.{raise, AreLow, IsLowNumber}

pub raised_var : (k : ℕ) (tree : Tree Variable) (n : ℕ) (s : Sort) → tree ≡ variable n s → mapped (raise k) tree ≡ variable (k + n) s
raised_var k tree n s is = ap (mapped (raise k)) is ∙ mapped_var (raise k) (record { number = n; sort = s })

pub raised_app : (k : ℕ) (tree : Tree Variable) (name : List ℕ) (ts : List (Tree Variable)) → tree ≡ App name ts → mapped (raise k) tree ≡ App name (mapped_all (raise k) ts)
raised_app k tree name ts is = ap (mapped (raise k)) is ∙ mapped_app (raise k) name ts

small_mapped : (k : ℕ) (tree : Tree Variable) → IsSmall tree → IsSmall (mapped (raise k) tree)
small_mapped k tree h = record {
  size = omega (arith, h.size, size_mapped (raise k) tree);
  depth = omega (arith, h.depth, depth_mapped (raise k) tree);
}

-- an application stays within the limits
pub small_app : (k : ℕ) (tree : Tree Variable) (name : List ℕ) (ts us : List (Tree Variable)) → tree ≡ App name ts → IsSmall tree → us ≡ mapped_all (raise k) ts → IsSmall (App name us)
small_app k tree name ts us is small e =
    let P : Tree Variable → Type 0 = IsSmall in
    subst P (raised_app k tree name ts is ∙ ap (App name) (sym e)) (small_mapped k tree small)

-- ---- numbers that can be raised
pub low_var : (tree : Tree Variable) (n : ℕ) (s : Sort) → tree ≡ variable n s → AreLow (variables tree) → n ≤ 256
low_var tree n s is low =
    let v : Variable = record { number = n; sort = s } in
    all_each (λ w. IsLowNumber w.number) (variables tree) low.each v
    (subst (λ (vs : List Variable). Among v vs) (sym (ap variables is ∙ variables_var v)) first)

pub low_app : (tree : Tree Variable) (name : List ℕ) (ts : List (Tree Variable)) → tree ≡ App name ts → AreLow (variables tree) → AreLow (variables_in ts)
low_app tree name ts is low = subst AreLow (ap variables is ∙ variables_app name ts) low

pub among_item : (store : List (Tree Variable)) (terms : List ℕ) (i d : ℕ) → i < length terms → (v : Variable) → Among v (variables (tree_at store (get_or terms i d))) → Among v (variables_in (trees_at store terms))
among_item store [] i d w v m = absurd (omega arith)
among_item store (t ∷ ts) zero d w v m = among_front v (variables (tree_at store t)) (variables_in (trees_at store ts)) m
among_item store (t ∷ ts) (suc i) d w v m = among_back v (variables (tree_at store t)) (variables_in (trees_at store ts)) (among_item store ts i d (omega arith) v m)

-- the variables of a term of the list
pub item_variable : (store : List (Tree Variable)) (terms : List ℕ) (i term : ℕ) → i < length terms → term ≡ get_or terms i term → (v : Variable) → Among v (variables (tree_at store term)) → Among v (variables_in (trees_at store terms))
item_variable store terms i term within item v m =
    among_item store terms i term within v (subst (λ (t : ℕ). Among v (variables (tree_at store t))) item m)

pub low_item : (store : List (Tree Variable)) (terms : List ℕ) (i term : ℕ) → i < length terms → term ≡ get_or terms i term → AreLow (variables_in (trees_at store terms)) → AreLow (variables (tree_at store term))
low_item store terms i term within item low =
    record {
      each = each_all (λ v. IsLowNumber v.number) (variables (tree_at store term))
          (λ v m. all_each (λ w. IsLowNumber w.number) (variables_in (trees_at store terms)) low.each v (item_variable store terms i term within item v m));
    }

-- ---- one more term
mapped_push : (f : Variable → Variable) (ts : List (Tree Variable)) (t : Tree Variable) → mapped_all f (ts ++ t ∷ []) ≡ mapped_all f ts ++ mapped f t ∷ []
mapped_push f [] t = refl
mapped_push f (u ∷ ts) t = ap (λ v. mapped f u ∷ v) (mapped_push f ts t)

pub raised_more : (f : Variable → Variable) (from mid new : List (Tree Variable)) (terms all more : List ℕ) (i one term : ℕ)
    → HaveTrees mid all (mapped_all f (trees_at from (take i terms))) → Keeps mid new → i < length terms → term ≡ get_or terms i term
    → HasTree new one (mapped f (tree_at from term)) → more ≡ all ++ one ∷ [] → HaveTrees new more (mapped_all f (trees_at from (take (i + 1) terms)))
raised_more f from mid new terms all more i one term have after within item has is =
    let done : List (Tree Variable) = trees_at from (take i terms) in
    let trees : mapped_all f (trees_at from (take (i + 1) terms)) ≡ mapped_all f done ++ mapped f (tree_at from term) ∷ [] =
    ap (mapped_all f) (trees_at_more from terms i term within item) ∙ mapped_push f done (tree_at from term) in
    let P : List ℕ → Type 0 = λ v. HaveTrees new v (mapped_all f (trees_at from (take (i + 1) terms))) in
    let Q : List (Tree Variable) → Type 0 = HaveTrees new (all ++ one ∷ []) in
    subst P (sym is) (subst Q (sym trees) (have_push mid new all (mapped_all f done) one (mapped f (tree_at from term)) have after has))

pub if_ok_tree : {E : Type 0} (r : Result ℕ E) (store : List (Tree Variable)) (t u : Tree Variable) → t ≡ u → IfOk r (λ p. HasTree store p t) → IfOk r (λ p. HasTree store p u)
if_ok_tree r store t u e h = let P : Tree Variable → Type 0 = λ v. IfOk r (λ p. HasTree store p v) in subst P e h

-- ---- what is raised falls
pub falls_to_arguments : (tree : Tree Variable) (name : List ℕ) (ts : List (Tree Variable)) (t : ℕ) → tree ≡ App name ts → 2 * size tree ≡ t → 2 * total_size ts + 1 < t
falls_to_arguments tree name ts t is e = let s = ap size is ∙ size_app name ts in omega (arith, s, e)

pub falls_to_one : (store : List (Tree Variable)) (terms : List ℕ) (i term : ℕ) (t : ℕ) → i < length terms → term ≡ get_or terms i term → 2 * total_size (trees_at store terms) + 1 ≡ t → 2 * size (tree_at store term) < t
falls_to_one store terms i term t within item e = let s = item_size store terms i term within item in omega (arith, s, e)
