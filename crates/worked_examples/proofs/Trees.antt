-- The test of two applications by the lists of their arguments.
use Rattle.std.proofs.Common.{◌≡◌, ℕ, Bool, true, false, ◌&&◌, List, [], ◌∷◌, refl, ap, ◌∙◌}
use Rattle.std.specs.Prelude.{nat_eq}
use Rattle.std.specs.Str.{bytes_eq}
use Rattle.clp_model.specs.declared.tree.Tree.{Tree, Var, App, Row_of-Tree, end_of-Tree, more_of-Tree, items-the_row-Tree}
use Rattle.clp_model.specs.declared.tree.Tree.TheBlock.{items_hidden-the_row-Tree-0, hidden-the_row-Tree-0}
use Rattle.map_model.specs.SameTree.{same_tree, same_trees}

abbrev pub same_all : List (Tree ℕ) → List (Tree ℕ) → Bool
same_all [] [] = true
same_all [] (u ∷ us) = false
same_all (t ∷ ts) [] = false
same_all (t ∷ ts) (u ∷ us) = same_tree t u && same_all ts us

same-items : (m n : _) (ts : Row_of-Tree ℕ m) (us : Row_of-Tree ℕ n) → same_trees ts us ≡ same_all (items-the_row-Tree ℕ m ts) (items-the_row-Tree ℕ n us)
unfolding same_tree
same-items m n end_of-Tree end_of-Tree = refl
same-items m n end_of-Tree (more_of-Tree u us) = refl
same-items m n (more_of-Tree t ts) end_of-Tree = refl
same-items m n (more_of-Tree t ts) (more_of-Tree u us) = ap (λ r. same_tree t u && r) (same-items _ _ ts us)

pub same_app : (name other : List ℕ) (ts us : List (Tree ℕ)) → same_tree (App name ts) (App other us) ≡ (bytes_eq name other && same_all ts us)
unfolding same_tree
same_app name other ts us =
    ap (λ r. bytes_eq name other && r)
    (same-items _ _ (hidden-the_row-Tree-0 ℕ ts) (hidden-the_row-Tree-0 ℕ us)
    ∙ (ap (λ vs. same_all vs (items-the_row-Tree ℕ _ (hidden-the_row-Tree-0 ℕ us))) (items_hidden-the_row-Tree-0 ℕ ts)
    ∙ ap (same_all ts) (items_hidden-the_row-Tree-0 ℕ us)))

pub same_var : (n m : ℕ) → same_tree (Var n) (Var m) ≡ nat_eq n m
unfolding same_tree
same_var n m = refl
