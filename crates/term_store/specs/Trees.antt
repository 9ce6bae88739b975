-- The terms of a store, which is seen as a list of trees.
use Rattle.std.specs.Prelude.{ℕ, ◌<◌, ◌≤◌, ◌≡◌, List, [], ◌∷◌, ◌++◌, length, slice_index_or, ◌⊎◌}
use Rattle.clp_model.specs.declared.sort.Sort.{Sort}
use Rattle.clp_model.specs.declared.sort.Sort.TheVariants.{Any}
use Rattle.clp_model.specs.declared.tree.Variable.{Variable}
use Rattle.clp_model.specs.declared.tree.Tree.{Tree, Var}
use Rattle.clp_model.specs.Trees.{size, depth}

-- the tree that is a variable
abbrev pub variable : ℕ → Sort → Tree Variable
variable number sort = Var (record { number = number; sort = sort })

-- the tree of a term
abbrev pub tree_at : List (Tree Variable) → ℕ → Tree Variable
tree_at store term = slice_index_or store term (variable 0 Any)

abbrev pub trees_at : List (Tree Variable) → List ℕ → List (Tree Variable)
trees_at store [] = []
trees_at store (t ∷ ts) = tree_at store t ∷ trees_at store ts

-- each term is of the store
abbrev pub AreIn : List (Tree Variable) → List ℕ → Type 0
AreIn store [] = Unit {0}
AreIn store (t ∷ ts) = (t < length store) × AreIn store ts

-- the term is of the store, and has this tree
pub record HasTree (store : List (Tree Variable)) (term : ℕ) (tree : Tree Variable) : Type 0 where
  pub within : term < length store
  pub is : tree_at store term ≡ tree

-- the terms are of the store, and have these trees
pub record HaveTrees (store : List (Tree Variable)) (terms : List ℕ) (trees : List (Tree Variable)) : Type 0 where
  pub within : AreIn store terms
  pub are : trees_at store terms ≡ trees

-- each earlier term keeps its tree
pub record Keeps (old new : List (Tree Variable)) : Type 0 where
  pub more : List (Tree Variable)
  pub is : new ≡ old ++ more

-- within the limits of a term
pub record IsSmall (tree : Tree Variable) : Type 0 where
  pub size : size tree ≤ 4096
  pub depth : depth tree ≤ 256

-- a size or a depth past its limit
abbrev pub IsOver : ℕ → ℕ → Type 0
IsOver size depth = (4096 < size) ⊎ (256 < depth)

abbrev pub IsTooLarge : Tree Variable → Type 0
IsTooLarge tree = IsOver (size tree) (depth tree)
