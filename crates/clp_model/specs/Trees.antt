-- What is said of trees, whatever their variables are.
use Rattle.std.specs.Prelude.{ℕ, ◌+◌, max, List, [], ◌∷◌, ◌++◌}
use Rattle.clp_model.specs.declared.tree.Tree.{Tree, Var, App', Row_of-Tree, end_of-Tree, more_of-Tree, items-the_row-Tree}

-- the number of nodes
unfoldable mutual
  pub size : {V : Type 0} → Tree V → ℕ
  size (Var v) = 1
  size (App' name shape args) = 1 + sizes args

  pub sizes : {V : Type 0} {m : _} → Row_of-Tree V m → ℕ
  sizes end_of-Tree = 0
  sizes (more_of-Tree t ts) = size t + sizes ts

-- 1 for a variable or a constant, and 1 more than the deepest argument for an application
unfoldable mutual
  pub depth : {V : Type 0} → Tree V → ℕ
  depth (Var v) = 1
  depth (App' name shape args) = 1 + depths args

  pub depths : {V : Type 0} {m : _} → Row_of-Tree V m → ℕ
  depths end_of-Tree = 0
  depths (more_of-Tree t ts) = max (depth t) (depths ts)

-- the same of a list of trees
abbrev pub total_size : {V : Type 0} → List (Tree V) → ℕ
total_size [] = 0
total_size (t ∷ ts) = size t + total_size ts

abbrev pub greatest_depth : {V : Type 0} → List (Tree V) → ℕ
greatest_depth [] = 0
greatest_depth (t ∷ ts) = max (depth t) (greatest_depth ts)

-- the tree with another variable in the place of each
unfoldable mutual
  pub mapped : {V W : Type 0} → (V → W) → Tree V → Tree W
  mapped f (Var v) = Var (f v)
  mapped f (App' name shape args) = App' name shape (mapped_row f args)

  pub mapped_row : {V W : Type 0} {m : _} → (V → W) → Row_of-Tree V m → Row_of-Tree W m
  mapped_row f end_of-Tree = end_of-Tree
  mapped_row f (more_of-Tree t ts) = more_of-Tree (mapped f t) (mapped_row f ts)

abbrev pub mapped_all : {V W : Type 0} → (V → W) → List (Tree V) → List (Tree W)
mapped_all f [] = []
mapped_all f (t ∷ ts) = mapped f t ∷ mapped_all f ts

-- the variables in the order of the text, as often as they occur
unfoldable mutual
  pub variables : {V : Type 0} → Tree V → List V
  variables (Var v) = v ∷ []
  variables (App' name shape args) = variables_in_row args

  pub variables_in_row : {V : Type 0} {m : _} → Row_of-Tree V m → List V
  variables_in_row end_of-Tree = []
  variables_in_row (more_of-Tree t ts) = variables t ++ variables_in_row ts

abbrev pub variables_in : {V : Type 0} → List (Tree V) → List V
variables_in [] = []
variables_in (t ∷ ts) = variables t ++ variables_in ts

-- a tree that is no variable
unfoldable pub IsApplication : {V : Type 0} → Tree V → Type 0
IsApplication (Var v) = ⊥
IsApplication (App' name shape args) = Unit {0}

-- the name and the arguments of an application
unfoldable pub name_of : {V : Type 0} → Tree V → List ℕ
name_of (Var v) = []
name_of (App' name shape args) = name

unfoldable pub arguments_of : {V : Type 0} → Tree V → List (Tree V)
arguments_of (Var v) = []
arguments_of {V} (App' name shape args) = items-the_row-Tree V _ args
