-- Terms that are copied one after another.
use Rattle.std.proofs.Common.{◌≡◌, ℕ, ◌+◌, ◌<◌, List, [], ◌∷◌, ◌++◌, length, take, get_or, sym, subst}
use Rattle.clp_model.specs.declared.tree.Variable.{Variable}
use Rattle.clp_model.specs.declared.tree.Tree.{Tree}
use Rattle.term_store.specs.Trees.{tree_at, trees_at, Keeps, HasTree, HaveTrees}
use Rattle.term_store.proofs.Keeping.{have_push, trees_at_more}

-- one more copy
pub copied_more : (from old new : List (Tree Variable)) (args copies more : List ℕ) (i p arg : ℕ)
    → HaveTrees old copies (trees_at from (take i args)) → Keeps old new → i < length args → arg ≡ get_or args i arg → HasTree new p (tree_at from arg)
    → more ≡ copies ++ p ∷ [] → HaveTrees new more (trees_at from (take (i + 1) args))
copied_more from old new args copies more i p arg have keeps within item has is =
    let P : List ℕ → Type 0 = λ v. HaveTrees new v (trees_at from (take (i + 1) args)) in
    let Q : List (Tree Variable) → Type 0 = λ v. HaveTrees new (copies ++ p ∷ []) v in
    subst P (sym is) (subst Q (sym (trees_at_more from args i arg within item)) (have_push old new copies (trees_at from (take i args)) p (tree_at from arg) have keeps has))
