-- What holds of each source clause, and the clauses of a loaded program.
use Rattle.std.specs.Prelude.{ℕ, ◌<◌, ◌≤◌, List, [], ◌∷◌, ◌++◌, length, Option, Some, None, All}
use Rattle.clp_model.specs.declared.tree.Tree.{Tree}
use Rattle.clp_model.specs.Trees.{variables, IsApplication}
use Rattle.clp_model.specs.Clauses.{Clause}
use Rattle.clause_model.specs.Solved.{RowsAreNum}
use Rattle.unfold_model.specs.Resolvent.{HasPlaces}

-- the variables of the sides of equations
abbrev pub side_variables : List (Tree ℕ × Tree ℕ) → List ℕ
side_variables [] = []
side_variables (e ∷ es) = variables e.0 ++ (variables e.1 ++ side_variables es)

-- the head and the atoms are applications, each variable has its place in the sorts, and those of rows are Num
pub record IsWellFormed (c : Clause) : Type 0 where
  pub applications : All IsApplication (c.head ∷ c.body)
  pub places : HasPlaces c
  pub sides : All (λ n. (0 < n) × (n ≤ length c.sorts)) (side_variables c.equations)
  pub nums : RowsAreNum c

-- the clauses at places some of which are empty
abbrev pub clauses_at : List (Option Clause) → List Clause
clauses_at [] = []
clauses_at (None ∷ cs) = clauses_at cs
clauses_at (Some c ∷ cs) = c ∷ clauses_at cs
