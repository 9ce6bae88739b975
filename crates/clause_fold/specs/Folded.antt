-- The parts of a folded clause, as terms of a store.
use Rattle.std.specs.Prelude.{◌≡◌, ℕ, List}
use Rattle.clp_model.specs.declared.sort.Sort.{Sort}
use Rattle.clp_model.specs.declared.tree.Variable.{Variable}
use Rattle.clp_model.specs.declared.tree.Tree.{Tree}
use Rattle.clp_model.specs.Trees.{total_size, greatest_depth}
use Rattle.clp_model.specs.Clauses.{Row}
use Rattle.unify_model.specs.Substituting.{substituted}
use Rattle.term_store.specs.Trees.{tree_at, trees_at, HasTree, HaveTrees, IsOver}
use Rattle.clause_store.specs.declared.clause.Clause.{Clause}
use Rattle.clause_store.specs.declared.clause.RawClause.{RawClause}
use Rattle.fold_model.specs.Positions.{chosen, replaced}
use Rattle.clause_fold.specs.Images.{image_of}

-- the trees of the atoms of c, with the head of n, in which images of the scratch store stand, for those at the positions
abbrev pub folded_trees : List (Tree Variable) → List ℕ → List (Tree Variable) → Clause → Clause → List ℕ → List (Tree Variable)
folded_trees scratch images store n c positions = replaced (substituted (image_of scratch images) (tree_at store n.head)) positions (trees_at store c.atoms)

-- together they are past the limits of a term
abbrev pub AreTooLarge : List (Tree Variable) → Type 0
AreTooLarge ts = IsOver (total_size ts) (greatest_depth ts)

-- the raw clause has the head and the sorts of c, those of its rows that are kept, and these atoms
pub record IsFolded (new : List (Tree Variable)) (raw : RawClause) (store : List (Tree Variable)) (c : Clause) (keep : List ℕ) (trees : List (Tree Variable)) : Type 0 where
  pub head : HasTree new raw.head (tree_at store c.head)
  pub rows : raw.rows ≡ chosen keep c.rows
  pub atoms : HaveTrees new raw.atoms trees
  pub sorts : raw.sorts ≡ c.sorts
