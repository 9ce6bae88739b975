-- The size of a clause, its limits and its canonical form.
use Rattle.std.specs.Prelude.{◌≡◌, ℕ, suc, ◌+◌, ◌||◌, nat_eq, nat_lt, if◌then◌else◌, List, [], ◌∷◌, map, length, Option, Some, None, Result, Ok, Err}
use Rattle.clp_model.specs.declared.tree.Tree.{Tree}
use Rattle.clp_model.specs.declared.limit.Limit.{Limit}
use Rattle.clp_model.specs.declared.limit.Limit.TheVariants.{Shape, Atoms, Variables, Rows}
use Rattle.clp_model.specs.Trees.{total_size, greatest_depth, variables_in, mapped, mapped_all}
use Rattle.clp_model.specs.Clauses.{Clause, Row, sort_in}
use Rattle.clp_model.specs.Predicates.{distinct_after}

-- for each row one, and one for each of its coefficients
abbrev pub rows_size : List Row → ℕ
rows_size [] = 0
rows_size (row ∷ rows) = 1 + length row.pairs + rows_size rows

-- the nodes of the head and the atoms, and the size of the rows
unfoldable pub clause_size : Clause → ℕ
clause_size c = total_size (c.head ∷ c.body) + rows_size c.rows

unfoldable pub clause_depth : Clause → ℕ
clause_depth c = greatest_depth (c.head ∷ c.body)

-- the variables of these atoms, each once, by first occurrence
unfoldable pub variables_met : List (Tree ℕ) → List ℕ
variables_met atoms = distinct_after nat_eq [] (variables_in atoms)

-- the place of a number in a list, from 1
abbrev pub place_in : List ℕ → ℕ → ℕ
place_in [] n = 1
place_in (m ∷ ms) n = if nat_eq m n then 1 else suc (place_in ms n)

-- The canonical form: variables are numbered by first occurrence in the head and then the atoms.
-- It is the form of clauses without equations and rows, which can't be written yet.
unfoldable pub canonical_form : Clause → Clause
canonical_form c =
    let met = variables_met (c.head ∷ c.body) in
    record {
      head = mapped (place_in met) c.head;
      equations = [];
      rows = [];
      body = mapped_all (place_in met) c.body;
      sorts = map (sort_in c.sorts) met;
    }

-- the first limit that a new clause is past, in the order in which they are tested
unfoldable pub limit_past : Clause → Option Limit
limit_past c =
    if nat_lt 4096 (clause_size c) || nat_lt 256 (clause_depth c) then Some Shape
    else (if nat_lt 64 (length c.body) then Some Atoms
    else (if nat_lt 256 (length (variables_met (c.head ∷ c.body))) then Some Variables
    else (if nat_lt 128 (length c.rows) then Some Rows
    else None)))

abbrev pub unless_past : Option Limit → Clause → Result Clause Limit
unless_past None c = Ok (canonical_form c)
unless_past (Some limit) c = Err limit

-- the canonical form of a new clause, or the first limit that it is past
abbrev pub new_clause : Clause → Result Clause Limit
new_clause c = unless_past (limit_past c) c

-- a clause that is its own canonical form, within the limits
pub record IsCanonical (c : Clause) : Type 0 where
  pub form : canonical_form c ≡ c
  pub limits : limit_past c ≡ None
