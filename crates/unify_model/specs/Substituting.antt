-- Trees with a tree in the place of each variable, and lists of bindings.
use Rattle.std.specs.Prelude.{nat_eq, nat_lt, Bool, true, false, ◌&&◌, List, [], ◌∷◌, if◌then◌else◌}
use Rattle.std.specs.List.{list_any}
use Rattle.clp_model.specs.declared.sort.Sort.{Sort}
use Rattle.clp_model.specs.declared.sort.Sort.TheVariants.{Any, Num}
use Rattle.clp_model.specs.declared.tree.Variable.{Variable}
use Rattle.clp_model.specs.declared.tree.Tree.{Tree, Var, App', Row_of-Tree, end_of-Tree, more_of-Tree}
use Rattle.clp_model.specs.Trees.{variables}

-- the tree with a tree in each variable's place
unfoldable mutual
  pub substituted : {V W : Type 0} → (V → Tree W) → Tree V → Tree W
  substituted f (Var v) = f v
  substituted f (App' name shape args) = App' name shape (substituted_row f args)

  pub substituted_row : {V W : Type 0} {m : _} → (V → Tree W) → Row_of-Tree V m → Row_of-Tree W m
  substituted_row f end_of-Tree = end_of-Tree
  substituted_row f (more_of-Tree t ts) = more_of-Tree (substituted f t) (substituted_row f ts)

-- ---- variables
abbrev pub same_sort : Sort → Sort → Bool
same_sort Any Any = true
same_sort Num Num = true
same_sort _ _ = false

abbrev pub same_variable : Variable → Variable → Bool
same_variable v w = nat_eq v.number w.number && same_sort v.sort w.sort

-- Num variables come before Any variables, and then a lower number before a higher one
abbrev pub sorts_before : Sort → Sort → Bool → Bool
sorts_before Num Any lower = true
sorts_before Any Num lower = false
sorts_before _ _ lower = lower

abbrev pub comes_before : Variable → Variable → Bool
comes_before v w = sorts_before v.sort w.sort (nat_lt v.number w.number)

abbrev pub occurs : Variable → Tree Variable → Bool
occurs v t = list_any (same_variable v) (variables t)

-- ---- bindings
-- a variable and the tree that takes its place
abbrev pub Binding : Type 0
Binding = Variable × Tree Variable

-- t in the place of v, and every other variable as it is
abbrev pub replacing : Binding → Variable → Tree Variable
replacing b v = if same_variable b.0 v then b.1 else Var v

-- what takes the place of a variable when the bindings are carried out one after another
abbrev pub image : List Binding → Variable → Tree Variable
image [] v = Var v
image (b ∷ bs) v = if same_variable b.0 v then substituted (image bs) b.1 else image bs v

abbrev pub substituted_all : {V W : Type 0} → (V → Tree W) → List (Tree V) → List (Tree W)
substituted_all f [] = []
substituted_all f (t ∷ ts) = substituted f t ∷ substituted_all f ts
