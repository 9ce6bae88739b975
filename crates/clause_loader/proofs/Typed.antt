-- Trees with sorts, made one after another.
use Rattle.std.proofs.Common.{◌≡◌, ℕ, zero, suc, ◌+◌, ◌<◌, ◌≤◌, List, [], ◌∷◌, ◌++◌, length, take, get_or, refl, ap, ◌∙◌, sym, subst, arith, inl, inr}
use Rattle.std.proofs.lemmas.List.{take_more, take_all}
use Rattle.clp_model.specs.declared.sort.Sort.{Sort}
use Rattle.clp_model.specs.declared.tree.Variable.{Variable}
use Rattle.clp_model.specs.declared.tree.Tree.{Tree, App}
use Rattle.clp_model.specs.Trees.{size, depth, total_size, greatest_depth, mapped}
use Rattle.clp_model.proofs.Trees.{size_mapped, depth_mapped, mapped_app}
use Rattle.term_store.specs.Trees.{Keeps, HasTree, HaveTrees, IsOver, IsTooLarge}
use Rattle.term_store.proofs.Keeping.{have_push}
use Rattle.clause_model.specs.Solved.{typed_variable, typed}
use Rattle.clause_loader.specs.Carried.{typed_all}

typed_push : (sorts : List Sort) (ts : List (Tree ℕ)) (t : Tree ℕ) → typed_all sorts (ts ++ t ∷ []) ≡ typed_all sorts ts ++ typed sorts t ∷ []
typed_push sorts [] t = refl
typed_push sorts (u ∷ ts) t = ap (λ v. typed sorts u ∷ v) (typed_push sorts ts t)

-- one more tree
pub typed_more : (sorts : List Sort) (old new : List (Tree Variable)) (trees : List (Tree ℕ)) (terms more : List ℕ) (i p : ℕ) (tree : Tree ℕ)
    → HaveTrees old terms (typed_all sorts (take i trees)) → Keeps old new → i < length trees → tree ≡ get_or trees i tree → HasTree new p (typed sorts tree)
    → more ≡ terms ++ p ∷ [] → HaveTrees new more (typed_all sorts (take (i + 1) trees))
typed_more sorts old new trees terms more i p tree have keeps within item has is =
    let done : List (Tree Variable) = typed_all sorts (take i trees) in
    let all : typed_all sorts (take (i + 1) trees) ≡ done ++ typed sorts tree ∷ [] =
    ap (typed_all sorts) (take_more trees i tree within) ∙ typed_push sorts (take i trees) (get_or trees i tree) ∙ ap (λ t. done ++ typed sorts t ∷ []) (sym item) in
    let P : List ℕ → Type 0 = λ v. HaveTrees new v (typed_all sorts (take (i + 1) trees)) in
    let Q : List (Tree Variable) → Type 0 = HaveTrees new (terms ++ p ∷ []) in
    subst P (sym is) (subst Q (sym all) (have_push old new terms done p (typed sorts tree) have keeps has))

pub over_more : (s d s' d' : ℕ) → s ≤ s' → d ≤ d' → IsOver s d → IsOver s' d'
over_more s d s' d' m n (inl h) = inl (omega arith)
over_more s d s' d' m n (inr h) = inr (omega arith)

-- the application that is too large has the size and the depth of the tree
pub over_typed : (sorts : List Sort) (tree : Tree ℕ) (name : List ℕ) (ts : List (Tree ℕ)) (us : List (Tree Variable))
    → tree ≡ App name ts → us ≡ typed_all sorts ts → IsTooLarge (App name us) → IsOver (size tree) (depth tree)
over_typed sorts tree name ts us is e over =
    let same : App name us ≡ mapped (typed_variable sorts) tree =
    ap (App name) e ∙ sym (mapped_app (typed_variable sorts) name ts) ∙ ap (mapped (typed_variable sorts)) (sym is) in
    over_more _ _ _ _
    (omega (arith, ap size same, size_mapped (typed_variable sorts) tree))
    (omega (arith, ap depth same, depth_mapped (typed_variable sorts) tree)) over

pub size_at : (ts : List (Tree ℕ)) (i : ℕ) (d : Tree ℕ) → i < length ts → size (get_or ts i d) ≤ total_size ts
size_at [] i d h = absurd (omega arith)
size_at (t ∷ ts) zero d h = omega arith
size_at (t ∷ ts) (suc i) d h = let rest = size_at ts i d (omega arith) in omega arith

depth_at : (ts : List (Tree ℕ)) (i : ℕ) (d : Tree ℕ) → i < length ts → depth (get_or ts i d) ≤ greatest_depth ts
depth_at [] i d h = absurd (omega arith)
depth_at (t ∷ ts) zero d h = omega arith
depth_at (t ∷ ts) (suc i) d h = let rest = depth_at ts i d (omega arith) in omega arith

-- a tree too large makes the list too large
pub over_at : (ts : List (Tree ℕ)) (i : ℕ) (t : Tree ℕ) → i < length ts → t ≡ get_or ts i t → IsOver (size t) (depth t) → IsOver (total_size ts) (greatest_depth ts)
over_at ts i t within item over =
    over_more _ _ _ _
    (omega (arith, size_at ts i t within, ap size item))
    (omega (arith, depth_at ts i t within, ap depth item)) over

pub all_taken : (sorts : List Sort) (store : List (Tree Variable)) (trees : List (Tree ℕ)) (i : ℕ) (terms : List ℕ) → length trees ≤ i → HaveTrees store terms (typed_all sorts (take i trees)) → HaveTrees store terms (typed_all sorts trees)
all_taken sorts store trees i terms end h =
    let P : List (Tree ℕ) → Type 0 = λ ts. HaveTrees store terms (typed_all sorts ts) in
    subst P (take_all i trees end) h
