-- Which printed clauses are parsed.
use Rattle.std.specs.Prelude.{◌≡◌, ◌≤◌, ◌<◌, ◌^◌, ℕ, true, ◌∷◌, length, All}
use Rattle.clp_model.specs.declared.tree.Tree.{Tree, Var, App', Row_of-Tree, end_of-Tree, more_of-Tree}
use Rattle.clp_model.specs.Clauses.{Clause}
use Rattle.clp_model.specs.Trees.{greatest_depth}
use Rattle.clause_model.specs.Variables.{variables_as_printed}
use Rattle.linear_model.specs.Normal.{is_within}
use Rattle.token_model.specs.Names.{max_name}
use Rattle.clp_grammar.specs.Input.{max_open}

-- no name is too long
unfoldable mutual
  pub HasShortNames : Tree ℕ → Type 0
  HasShortNames (Var n) = Unit {0}
  HasShortNames (App' name shape args) = (length name ≤ max_name) × HaveShortNames args

  pub HaveShortNames : {m : _} → Row_of-Tree ℕ m → Type 0
  HaveShortNames end_of-Tree = Unit {0}
  HaveShortNames (more_of-Tree t ts) = HasShortNames t × HaveShortNames ts

-- Its names are not too long, its numbers not too large, and its atoms not too deep: an atom is written with no more
-- brackets open, and commas of open lists, than it is deep. Variables are numbers of 64 bits.
pub record IsParsable (c : Clause) : Type 0 where
  pub names : All HasShortNames (c.head ∷ c.body)
  pub deep : greatest_depth (c.head ∷ c.body) ≤ max_open
  pub range : All (λ r. is_within r ≡ true) c.rows
  pub variables : All (λ n. n < 2 ^ 64) (variables_as_printed c)
