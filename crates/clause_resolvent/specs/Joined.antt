-- The parts of two clauses that are joined, as terms of a store.
use Rattle.std.specs.Prelude.{◌≡◌, List}
use Rattle.clp_model.specs.declared.tree.Variable.{Variable}
use Rattle.clp_model.specs.declared.tree.Tree.{Tree}
use Rattle.clp_model.specs.Clauses.{Clause as Meaning}
use Rattle.term_store.specs.Trees.{HasTree, HaveTrees}
use Rattle.clause_model.specs.Solved.{typed}
use Rattle.clause_store.specs.declared.clause.RawClause.{RawClause}
use Rattle.clause_loader.specs.Carried.{typed_all}

-- the parts are those of the clause, whose equations are left out, each variable with its sort
pub record IsJoined (store : List (Tree Variable)) (raw : RawClause) (c : Meaning) : Type 0 where
  pub head : HasTree store raw.head (typed c.sorts c.head)
  pub atoms : HaveTrees store raw.atoms (typed_all c.sorts c.body)
  pub rows : raw.rows ≡ c.rows
  pub sorts : raw.sorts ≡ c.sorts
