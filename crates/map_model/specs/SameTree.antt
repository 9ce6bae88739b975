-- A test whether two trees are equal.
use Rattle.std.specs.Prelude.{ℕ, Bool, true, false, ◌&&◌, nat_eq}
use Rattle.std.specs.Str.{bytes_eq}
use Rattle.clp_model.specs.declared.tree.Tree.{Tree, Var, App', Row_of-Tree, end_of-Tree, more_of-Tree}

-- the same variable, or the same name with the same arguments
unfoldable mutual
  pub same_tree : Tree ℕ → Tree ℕ → Bool
  same_tree (Var n) (Var m) = nat_eq n m
  same_tree (Var n) (App' name shape args) = false
  same_tree (App' name shape args) (Var m) = false
  same_tree (App' name shape args) (App' other form more) = bytes_eq name other && same_trees args more

  pub same_trees : {n m : _} → Row_of-Tree ℕ n → Row_of-Tree ℕ m → Bool
  same_trees end_of-Tree end_of-Tree = true
  same_trees end_of-Tree (more_of-Tree u us) = false
  same_trees (more_of-Tree t ts) end_of-Tree = false
  same_trees (more_of-Tree t ts) (more_of-Tree u us) = same_tree t u && same_trees ts us
