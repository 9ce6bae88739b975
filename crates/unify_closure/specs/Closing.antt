-- The classes of the places of a graph, closed under the equations that are left.
use Rattle.std.specs.Prelude.{ℕ, ◌≡◌, ◌↔◌, ◌⊎◌, ◌<◌, true, ◌&&◌, nat_eq, if◌then◌else◌, List, [], map, length, Option, Some, None}
use Rattle.std.specs.List.{zip}
use Rattle.std.specs.Str.{bytes_eq}
use Rattle.clp_model.specs.declared.sort.Sort.{Sort}
use Rattle.clp_model.specs.declared.sort.Sort.TheVariants.{Any, Num}
use Rattle.clp_model.specs.declared.tree.Variable.{Variable}
use Rattle.clp_model.specs.declared.tree.Tree.{Tree}
use Rattle.clp_model.specs.Values.{Valuation}
use Rattle.unify_model.specs.Substituting.{same_variable, comes_before}
use Rattle.unify_model.specs.Equations.{under}
use Rattle.unify_closure.specs.declared.node.Node.{Node}
use Rattle.unify_closure.specs.declared.node.Node.TheVariants as node
use Rattle.unify_closure.specs.Graph.{node_at, variable_of, Describes, PairsHold, PairsWithin, value_at}

-- the second of two nodes can stand for the first, where arguments with equal labels are the same
abbrev pub Stands : (ℕ → ℕ) → Node → Node → Type 0
Stands label (node.Var n s) (node.Var m r) = (variable_of m r ≡ variable_of n s) ⊎ (comes_before (variable_of m r) (variable_of n s) ≡ true)
Stands label (node.Var n s) (node.App g ys) = s ≡ Any
Stands label (node.App f xs) (node.Var m r) = ⊥
Stands label (node.App f xs) (node.App g ys) = (f ≡ g) × (map label xs ≡ map label ys)

-- which of two places stands for both, and the equations between their arguments
abbrev pub Choice : Type 0
Choice = Option (ℕ × List (ℕ × ℕ))

-- an application stands for an Any variable alone
abbrev pub if_any : Sort → ℕ → Choice
if_any Any y = Some (y, [])
if_any Num y = None

-- of two variables the one that comes first, of a variable and an application the application
abbrev pub chosen : ℕ → ℕ → Node → Node → Choice
chosen x y (node.Var n s) (node.Var m r) =
    if same_variable (variable_of n s) (variable_of m r) then Some (x, [])
    else (if comes_before (variable_of n s) (variable_of m r) then Some (x, []) else Some (y, []))
chosen x y (node.Var n s) (node.App g ys) = if_any s y
chosen x y (node.App f xs) (node.Var m r) = if_any r x
chosen x y (node.App f xs) (node.App g ys) =
    if bytes_eq f g && nat_eq (length xs) (length ys) then Some (x, zip xs ys) else None

-- each place of a class has the label of the class, and the equations hold of the labels
pub record Fits (n : ℕ) (label classes : ℕ → ℕ) (work : List (ℕ × ℕ)) : Type 0 where
  pub same : (p : ℕ) → p < n → label p ≡ label (classes p)
  pub pairs : PairsHold label work

-- the equations hold exactly where each place has the value of its class, and the equations that are left hold
abbrev pub Means : List Node → (ℕ → ℕ) → List (ℕ × ℕ) → List (ℕ × ℕ) → Type 0
Means g classes work input =
    (trees : ℕ → Tree Variable) → Describes g trees → (u : Valuation)
    → PairsHold (value_at (under u) trees) input ↔ (((p : ℕ) → p < length g → value_at (under u) trees p ≡ value_at (under u) trees (classes p)) × PairsHold (value_at (under u) trees) work)

-- the classes are closed under the equations that are left, and mean with them what the input means
pub record IsClosing (g : List Node) (classes best : ℕ → ℕ) (work input : List (ℕ × ℕ)) : Type 0 where
  pub within : (p : ℕ) → p < length g → (classes p < length g) × (classes (classes p) ≡ classes p)
  pub best_is : (p : ℕ) → p < length g → (best (classes p) < length g) × (classes (best (classes p)) ≡ classes p)
  pub left : PairsWithin (length g) work
  pub closed : (label : ℕ → ℕ) → Fits (length g) label classes work → (p : ℕ) → p < length g → Stands label (node_at g p) (node_at g (best (classes p)))
  pub means : Means g classes work input

-- no valuation makes the equations hold
abbrev pub NeverHold : List Node → List (ℕ × ℕ) → Type 0
NeverHold g input = (trees : ℕ → Tree Variable) → Describes g trees → (u : Valuation) → PairsHold (value_at (under u) trees) input → ⊥
