-- What the entries of a store stand for.
use Rattle.std.specs.Prelude.{ℕ, ◌≡◌, ◌<◌, ◌≤◌, List, [], ◌∷◌, ◌++◌, length, slice_index_or}
use Rattle.std.specs.List.{slice_range}
use Rattle.clp_model.specs.declared.sort.Sort.{Sort}
use Rattle.clp_model.specs.declared.tree.Variable.{Variable}
use Rattle.clp_model.specs.declared.tree.Tree.{Tree, App}
use Rattle.clp_model.specs.Trees.{size, depth}
use Rattle.term_store.specs.declared.store.Span.{Span}
use Rattle.term_store.specs.declared.store.Node.{Node}
use Rattle.term_store.specs.declared.store.Node.TheVariants as node
use Rattle.term_store.specs.declared.store.Entry.{Entry}
use Rattle.term_store.specs.Trees.{variable, tree_at, trees_at, AreIn, IsSmall}

-- a part of the arguments of all applications
abbrev pub part : List ℕ → Span → List ℕ
part all span = slice_range all span.start span.end

-- the tree of a node whose arguments are among the trees before
abbrev pub tree_of : List ℕ → List (Tree Variable) → Node → Tree Variable
tree_of all before (node.Var n s) = variable n s
tree_of all before (node.App name span) = App name (trees_at before (part all span))

-- these arguments are this part
pub record IsPart (all args : List ℕ) (span : Span) : Type 0 where
  pub is : part all span ≡ args
  pub order : span.start ≤ span.end
  pub within : span.end ≤ length all

-- the entry at this place is the variable of this number and sort
pub record IsVariable (entries : List Entry) (number : ℕ) (sort : Sort) (place : ℕ) : Type 0 where
  pub within : place < length entries
  pub entry : Entry
  pub at : entry ≡ slice_index_or entries place entry
  pub is : entry.node ≡ node.Var number sort

-- the part is one, and its terms are among the trees before
pub record HasPart (all : List ℕ) (before : List (Tree Variable)) (span : Span) : Type 0 where
  pub order : span.start ≤ span.end
  pub within : span.end ≤ length all
  pub are : AreIn before (part all span)

abbrev pub HasArguments : List ℕ → List (Tree Variable) → Node → Type 0
HasArguments all before (node.Var n s) = Unit {0}
HasArguments all before (node.App name span) = HasPart all before span

-- the tree has this size and this depth, and is within the limits
pub record Measures (tree : Tree Variable) (nodes levels : ℕ) : Type 0 where
  pub size : size tree ≡ nodes
  pub depth : depth tree ≡ levels
  pub small : IsSmall tree

-- an entry that may follow the trees before
pub record IsEntry (all : List ℕ) (before : List (Tree Variable)) (e : Entry) : Type 0 where
  pub arguments : HasArguments all before e.node
  pub measures : Measures (tree_of all before e.node) e.size e.depth

-- the trees of the entries, after those before
abbrev pub built : List ℕ → List (Tree Variable) → List Entry → List (Tree Variable)
built all before [] = before
built all before (e ∷ es) = built all (before ++ tree_of all before e.node ∷ []) es

abbrev pub AreEntries : List ℕ → List (Tree Variable) → List Entry → Type 0
AreEntries all before [] = Unit {0}
AreEntries all before (e ∷ es) = IsEntry all before e × AreEntries all (before ++ tree_of all before e.node ∷ []) es

-- the entry stands for the tree of this term
pub record Stands (all : List ℕ) (store : List (Tree Variable)) (place : ℕ) (e : Entry) : Type 0 where
  pub is : tree_at store place ≡ tree_of all store e.node
  pub entry : IsEntry all store e
