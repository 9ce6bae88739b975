-- What holds of each source clause that is loaded.
use Rattle.std.specs.Prelude.{ℕ, ◌<◌, ◌≤◌, ◌^◌, List, [], ◌∷◌, ◌++◌, length, All}
use Rattle.clp_model.specs.declared.tree.Tree.{Tree}
use Rattle.clp_model.specs.Trees.{variables, variables_in, arguments_of, IsApplication}
use Rattle.clause_model.specs.Variables.{rows_variables}
use Rattle.clause_store.specs.declared.source.SourceClause.{SourceClause}
use Rattle.clause_store.specs.Stored.{IsNum}

-- a number of a variable, where there are this many
abbrev pub IsNumber : ℕ → ℕ → Type 0
IsNumber count n = (0 < n) × (n ≤ count)

-- the variables of the sides of equations
abbrev pub side_variables : List (Tree ℕ × Tree ℕ) → List ℕ
side_variables [] = []
side_variables (e ∷ es) = variables e.0 ++ (variables e.1 ++ side_variables es)

-- the head and the body atoms are applications, each variable has its place in the sorts, and those of rows are Num
pub record IsWellFormed (s : SourceClause) : Type 0 where
  pub applications : All IsApplication (s.head ∷ s.atoms)
  pub numbered : All (IsNumber (length s.sorts)) (variables_in (s.head ∷ s.atoms))
  pub sides : All (IsNumber (length s.sorts)) (side_variables s.equations)
  pub nums : All (IsNum s.sorts) (rows_variables s.rows)

-- an application whose number of arguments is one of 32 bits
pub record IsNarrowAtom (t : Tree ℕ) : Type 0 where
  pub application : IsApplication t
  pub few : length (arguments_of t) < 2 ^ 32

-- each predicate of the clause is one that can be kept
abbrev pub IsNarrow : SourceClause → Type 0
IsNarrow s = All IsNarrowAtom (s.head ∷ s.atoms)
