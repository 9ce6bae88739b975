-- Graphs of terms, and their trees.
use Rattle.std.specs.Prelude.{ℕ, ◌≡◌, ◌<◌, List, [], ◌∷◌, length, slice_index_or}
use Rattle.clp_model.specs.declared.sort.Sort.{Sort}
use Rattle.clp_model.specs.declared.sort.Sort.TheVariants.{Any}
use Rattle.clp_model.specs.declared.tree.Variable.{Variable}
use Rattle.clp_model.specs.declared.tree.Tree.{Tree, Var, App}
use Rattle.clp_model.specs.Values.{Value}
use Rattle.unify_model.specs.Equations.{value_by}
use Rattle.unify_closure.specs.declared.node.Node.{Node}
use Rattle.unify_closure.specs.declared.node.Node.TheVariants as node

-- the node of a place
abbrev pub node_at : List Node → ℕ → Node
node_at g p = slice_index_or g p (node.Var 0 Any)

-- the variable of this number and sort
abbrev pub variable_of : ℕ → Sort → Variable
variable_of n s = record { number = n; sort = s }

-- the trees of several places
abbrev pub all_of : (ℕ → Tree Variable) → List ℕ → List (Tree Variable)
all_of trees [] = []
all_of trees (p ∷ ps) = trees p ∷ all_of trees ps

-- the tree of a node, by the trees of its arguments
abbrev pub tree_of : (ℕ → Tree Variable) → Node → Tree Variable
tree_of trees (node.Var n s) = Var (variable_of n s)
tree_of trees (node.App name args) = App name (all_of trees args)

-- the trees of the places of a graph
abbrev pub Describes : List Node → (ℕ → Tree Variable) → Type 0
Describes g trees = (p : ℕ) → p < length g → trees p ≡ tree_of trees (node_at g p)

-- the places of each pair have one label
abbrev pub PairsHold : {X : Type 0} → (ℕ → X) → List (ℕ × ℕ) → Type 0
PairsHold value [] = Unit {0}
PairsHold value (e ∷ es) = (value e.0 ≡ value e.1) × PairsHold value es

-- the pairs are of places below n
abbrev pub PairsWithin : ℕ → List (ℕ × ℕ) → Type 0
PairsWithin n [] = Unit {0}
PairsWithin n (e ∷ es) = ((e.0 < n) × (e.1 < n)) × PairsWithin n es

-- the value of the tree at a place
abbrev pub value_at : (Variable → Value) → (ℕ → Tree Variable) → ℕ → Value
value_at a trees p = value_by a (trees p)
