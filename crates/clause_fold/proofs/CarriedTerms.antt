-- Terms of a definition, in which the images of its variables are put one after another.
use Rattle.std.proofs.Common.{◌≡◌, ℕ, suc, ◌+◌, ◌*◌, ◌<◌, List, [], ◌∷◌, ◌++◌, length, take, ap, ◌∙◌, sym, subst, arith, All, get_or}
use Rattle.std.proofs.lemmas.List.{take_all}
use Rattle.clp_model.specs.declared.sort.Sort.{Sort}
use Rattle.clp_model.specs.declared.tree.Variable.{Variable}
use Rattle.clp_model.specs.declared.tree.Tree.{Tree, App}
use Rattle.clp_model.specs.Trees.{size, total_size, mapped, variables, variables_in}
use Rattle.clp_model.proofs.Trees.{size_app}
use Rattle.clp_model.proofs.Membership.{first}
use Rattle.lin_row.specs.Rows.{at}
use Rattle.unify_model.specs.Substituting.{substituted, substituted_all}
use Rattle.term_store.specs.Trees.{variable, tree_at, trees_at, AreIn, HasTree, HaveTrees, Keeps}
use Rattle.term_store.proofs.Keeping.{have_push, trees_at_more}
use Rattle.substitution.proofs.Weighed.{item_size, sub_var, sub_push}
use Rattle.clause_laws.proofs.Rows.{all_each}
use Rattle.clause_store.specs.Stored.{number_of, atoms_at}
use Rattle.clause_store.proofs.Numbers.{numbers_var, numbers_app}
use Rattle.clause_loader.specs.WellFormed.{IsNumber}
use Rattle.clause_fold.specs.Images.{image_of}
use Rattle.clause_fold.proofs.ImageTerms.{image_in_store}

-- ---- the numbers of a term's parts
pub number_here : (k : ℕ) (tree : Tree Variable) (n : ℕ) (s : Sort) → tree ≡ variable n s → All (IsNumber k) (variables (mapped number_of tree)) → IsNumber k n
number_here k tree n s is h = all_each (IsNumber k) (n ∷ []) (subst (λ (ns : List ℕ). All (IsNumber k) ns) (numbers_var tree n s is) h) n first

pub numbers_below : (store : List (Tree Variable)) (k : ℕ) (tree : Tree Variable) (name terms : List ℕ) → tree ≡ App name (trees_at store terms) → All (IsNumber k) (variables (mapped number_of tree)) → All (IsNumber k) (variables_in (atoms_at store terms))
numbers_below store k tree name terms is h = subst (λ (ns : List ℕ). All (IsNumber k) ns) (numbers_app tree name (trees_at store terms) is) h

-- ---- a variable
pub image_here : (store : List (Tree Variable)) (images : List ℕ) (tree : Tree Variable) (n : ℕ) (s : Sort) (t : ℕ) → tree ≡ variable n s → AreIn store images → IsNumber (length images) n → t ≡ at images n
    → HasTree store t (substituted (image_of store images) tree)
image_here store images tree n s t is h w e =
    let P : ℕ → Type 0 = λ i. HasTree store i (substituted (image_of store images) tree) in
    subst P (sym e) (record { within = image_in_store store images n h w; is = sym (sub_var (image_of store images) tree (record { number = n; sort = s }) is) })

-- ---- one more term
pub carried_more : (f : Variable → Tree Variable) (from mid new : List (Tree Variable)) (terms all more : List ℕ) (i one term : ℕ)
    → HaveTrees mid all (substituted_all f (trees_at from (take i terms))) → Keeps mid new → i < length terms → term ≡ get_or terms i term
    → HasTree new one (substituted f (tree_at from term)) → more ≡ all ++ one ∷ [] → HaveTrees new more (substituted_all f (trees_at from (take (i + 1) terms)))
carried_more f from mid new terms all more i one term have after within item has is =
    let done : List (Tree Variable) = trees_at from (take i terms) in
    let trees : substituted_all f (trees_at from (take (i + 1) terms)) ≡ substituted_all f done ++ substituted f (tree_at from term) ∷ [] =
    ap (substituted_all f) (trees_at_more from terms i term within item) ∙ sub_push f done (tree_at from term) in
    let P : List ℕ → Type 0 = λ v. HaveTrees new v (substituted_all f (trees_at from (take (i + 1) terms))) in
    let Q : List (Tree Variable) → Type 0 = HaveTrees new (all ++ one ∷ []) in
    subst P (sym is) (subst Q (sym trees) (have_push mid new all (substituted_all f done) one (substituted f (tree_at from term)) have after has))

-- ---- what falls from call to call
pub falls_to_arguments : (tree : Tree Variable) (name : List ℕ) (ts : List (Tree Variable)) (t : ℕ) → tree ≡ App name ts → 2 * size tree ≡ t → 2 * total_size ts + 1 < t
falls_to_arguments tree name ts t is e = let s = ap size is ∙ size_app name ts in omega (arith, s, e)

pub falls_to_one : (store : List (Tree Variable)) (terms : List ℕ) (i term : ℕ) (t : ℕ) → i < length terms → term ≡ get_or terms i term → 2 * total_size (trees_at store terms) + 1 ≡ t → 2 * size (tree_at store term) < t
falls_to_one store terms i term t within item e = let s = item_size store terms i term within item in omega (arith, s, e)
