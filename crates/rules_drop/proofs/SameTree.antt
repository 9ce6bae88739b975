-- The test of trees is right.
use Rattle.std.proofs.Common.{◌≡◌, ℕ, Bool, true, false, ◌&&◌, refl, sym, ◌∙◌, ap}
use Rattle.std.specs.Str.{bytes_eq}
use Rattle.std.proofs.lemmas.Bool.{eqb-true}
use Rattle.std.proofs.lemmas.Slice.Eq.{bytes_eq-Decides}
use Rattle.clp_model.specs.declared.tree.Tree.{Tree, Var, App, App', Row_of-Tree, end_of-Tree, more_of-Tree, items-the_row-Tree}
use Rattle.clp_model.proofs.Trees.{out_app}
use Rattle.map_model.specs.SameTree.{same_tree, same_trees}

both : (a b : Bool) → (a && b) ≡ true → (a ≡ true) × (b ≡ true)
both true b h = (refl, h)
both false b h = cc

mutual
  unfolding same_tree

  -- trees that pass the test are equal
  pub same_tree_is : (t u : Tree ℕ) → same_tree t u ≡ true → t ≡ u
  same_tree_is (Var n) (Var m) h = ap Var (eqb-true n m h)
  same_tree_is (Var n) (App' g form ys) h = cc
  same_tree_is (App' f shape xs) (Var m) h = cc
  same_tree_is (App' f shape xs) (App' g form ys) h =
      let p = both (bytes_eq f g) (same_trees xs ys) h in
      sym (out_app f shape xs) ∙ ap (App f) (same_trees_are xs ys p.1) ∙ ap (λ n. App n (items-the_row-Tree ℕ _ ys)) ((bytes_eq-Decides f g).0 p.0) ∙ out_app g form ys

  same_trees_are : {m n : _} (xs : Row_of-Tree ℕ m) (ys : Row_of-Tree ℕ n) → same_trees xs ys ≡ true → items-the_row-Tree ℕ m xs ≡ items-the_row-Tree ℕ n ys
  same_trees_are end_of-Tree end_of-Tree h = refl
  same_trees_are end_of-Tree (more_of-Tree u us) h = cc
  same_trees_are (more_of-Tree t ts) end_of-Tree h = cc
  same_trees_are (more_of-Tree t ts) (more_of-Tree u us) h =
      let p = both (same_tree t u) (same_trees ts us) h in
      let a = same_tree_is t u p.0 in
      let b = same_trees_are ts us p.1 in
      cc
