-- Graphs of the terms of a store.
use Rattle.std.specs.Prelude.{ℕ, ◌≡◌, ◌<◌, ◌≤◌, List, length, nat_eq, slice_index_or, Some}
use Rattle.clp_model.specs.declared.sort.Sort.{Sort}
use Rattle.clp_model.specs.declared.tree.Variable.{Variable}
use Rattle.clp_model.specs.declared.tree.Tree.{Tree}
use Rattle.term_store.specs.Trees.{tree_at}
use Rattle.indexmap.specs.IndexMap.{get}
use Rattle.unify_closure.specs.declared.node.Node.{Node}
use Rattle.unify_closure.specs.declared.node.Node.TheVariants as node
use Rattle.unify_closure.specs.Graph.{node_at, all_of, tree_of, Describes}
use Rattle.unify_closure.specs.Turns.{AllBelow, HasArguments, IsGraph}
use Rattle.unify.specs.declared.graph.TermGraph.{TermGraph}
use Rattle.unify.specs.Places.{place_of}

abbrev pub term_at : List ℕ → ℕ → ℕ
term_at terms p = slice_index_or terms p 0

-- the tree of the term at a place
abbrev pub node_tree : List (Tree Variable) → List ℕ → ℕ → Tree Variable
node_tree store terms p = tree_at store (term_at terms p)

-- the nodes are those of the terms
pub record AreNodesOf (store : List (Tree Variable)) (terms : List ℕ) (nodes : List Node) : Type 0 where
  pub count : length terms ≡ length nodes
  pub within : (p : ℕ) → p < length nodes → term_at terms p < length store
  pub trees : Describes nodes (node_tree store terms)
  pub graph : IsGraph nodes

-- the place is one of the graph, and its term has this tree
abbrev pub HasPlace : List (Tree Variable) → TermGraph → ℕ → Tree Variable → Type 0
HasPlace store g p tree = (p < length g.nodes.items) × (node_tree store g.terms.items p ≡ tree)

pub record HavePlaces (store : List (Tree Variable)) (g : TermGraph) (ps : List ℕ) (trees : List (Tree Variable)) : Type 0 where
  pub within : AllBelow (length g.nodes.items) ps
  pub are : all_of (node_tree store g.terms.items) ps ≡ trees

-- the graph of terms of a store, in which each variable has one place
pub record IsTermGraph (store : List (Tree Variable)) (g : TermGraph) : Type 0 where
  pub nodes : AreNodesOf store g.terms.items g.nodes.items
  pub applications : (t p : ℕ) → get nat_eq g.applications t ≡ Some p → HasPlace store g p (tree_at store t)
  pub noted : (n p : ℕ) (s : Sort) → place_of g.variables n s ≡ Some p → (p < length g.nodes.items) × (node_at g.nodes.items p ≡ node.Var n s)
  pub every : (p n : ℕ) (s : Sort) → p < length g.nodes.items → node_at g.nodes.items p ≡ node.Var n s → place_of g.variables n s ≡ Some p

-- each earlier place keeps its term
pub record Grows (old new : TermGraph) : Type 0 where
  pub count : length old.nodes.items ≤ length new.nodes.items
  pub same : (p : ℕ) → p < length old.nodes.items → term_at new.terms.items p ≡ term_at old.terms.items p

-- the term has a place now
pub record Enters (store : List (Tree Variable)) (old new : TermGraph) (tree : Tree Variable) (p : ℕ) : Type 0 where
  pub is : IsTermGraph store new
  pub grows : Grows old new
  pub place : HasPlace store new p tree

-- the node shows the tree, by the terms at the places of the graph
pub record IsNodeOf (store : List (Tree Variable)) (g : TermGraph) (x : Node) (tree : Tree Variable) : Type 0 where
  pub is : tree ≡ tree_of (node_tree store g.terms.items) x
  pub arguments : HasArguments (length g.nodes.items) x
