-- Pairs of terms of a store, and their equations.
use Rattle.std.specs.Prelude.{ℕ, ◌≡◌, ◌<◌, List, [], ◌∷◌, length}
use Rattle.clp_model.specs.declared.tree.Variable.{Variable}
use Rattle.clp_model.specs.declared.tree.Tree.{Tree}
use Rattle.term_store.specs.Trees.{tree_at}
use Rattle.unify_model.specs.Equations.{Equation}
use Rattle.unify_closure.specs.Graph.{PairsWithin}
use Rattle.unify_closure.specs.Reading.{equations}
use Rattle.unify.specs.declared.graph.TermGraph.{TermGraph}
use Rattle.unify.specs.Graphs.{node_tree, IsTermGraph}

-- the terms are of the store
abbrev pub PairsIn : List (Tree Variable) → List (ℕ × ℕ) → Type 0
PairsIn store [] = Unit {0}
PairsIn store (p ∷ ps) = ((p.0 < length store) × (p.1 < length store)) × PairsIn store ps

-- the equations between the trees of the terms
abbrev pub equations_at : List (Tree Variable) → List (ℕ × ℕ) → List Equation
equations_at store [] = []
equations_at store (p ∷ ps) = (tree_at store p.0, tree_at store p.1) ∷ equations_at store ps

-- the graph has the pairs' terms, and the pairs of places have their equations
pub record AreEntered (store : List (Tree Variable)) (g : TermGraph) (pairs es : List (ℕ × ℕ)) : Type 0 where
  pub graph : IsTermGraph store g
  pub within : PairsWithin (length g.nodes.items) es
  pub are : equations (node_tree store g.terms.items) es ≡ equations_at store pairs
