-- The resolvent of a clause, at an atom of its body, with another clause.
use Rattle.std.specs.Prelude.{ℕ, suc, ◌+◌, ◌<◌, ◌≤◌, [], ◌∷◌, ◌++◌, map, length, take, drop, slice_index_or, Option, All}
use Rattle.clp_model.specs.Trees.{mapped, mapped_all, variables_in}
use Rattle.clp_model.specs.Clauses.{Clause}
use Rattle.linear_model.specs.Changes.{renamed}
use Rattle.clause_model.specs.Variables.{rows_variables}
use Rattle.clause_model.specs.Solved.{solved_clause}

-- a variable past the first k
abbrev pub past : ℕ → ℕ → ℕ
past k n = k + n

-- The clause in which the atom at place i of c's body, counted from 0, is to equal the head of e: the variables of e are
-- renumbered past those of c, its atoms stand in the place of the atom, and its rows follow those of c.
abbrev pub joined_clause : Clause → ℕ → Clause → Clause
joined_clause c i e =
    let k = length c.sorts in
    record {
      head = c.head;
      equations = (slice_index_or c.body i c.head, mapped (past k) e.head) ∷ [];
      rows = c.rows ++ map (renamed (past k)) e.rows;
      body = take i c.body ++ (mapped_all (past k) e.body ++ drop (suc i) c.body);
      sorts = c.sorts ++ e.sorts;
    }

-- the clause with this equation solved, or None where the atom and the head do not unify
unfoldable pub resolvent : Clause → ℕ → Clause → Option Clause
resolvent c i e = solved_clause (joined_clause c i e)

-- each variable has its place in the sorts
abbrev pub HasPlaces : Clause → Type 0
HasPlaces c = All (λ n. (0 < n) × (n ≤ length c.sorts)) (variables_in (c.head ∷ c.body) ++ rows_variables c.rows)
