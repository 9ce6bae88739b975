-- The canonical form of a clause, and what is made of a new clause.
use Rattle.std.specs.Prelude.{◌≡◌, ℕ, ◌||◌, ◌&&◌, not, nat_lt, if◌then◌else◌, List, [], ◌∷◌, map, length, Bool, true, Option, Some, None, Result, Ok, Err, All}
use Rattle.clp_model.specs.declared.limit.Limit.{Limit}
use Rattle.clp_model.specs.declared.limit.Limit.TheVariants.{Shape, Atoms, Variables, Rows}
use Rattle.clp_model.specs.Trees.{mapped, mapped_all}
use Rattle.clp_model.specs.Clauses.{Clause, Row, sort_in}
use Rattle.clp_model.specs.Canonical.{clause_size, clause_depth, place_in}
use Rattle.linear_model.specs.Forms.{IsRising}
use Rattle.linear_model.specs.Normal.{normal, is_within}
use Rattle.linear_model.specs.Changes.{renamed}
use Rattle.linear_model.specs.Elimination.{cleaned}
use Rattle.clause_model.specs.Variables.{variables_by_first_occurrence}

-- the clause with the variable at each place of a list numbered by this place; its rows are in normal form again
abbrev pub numbered_by : List ℕ → Clause → Clause
numbered_by met c = record {
  head = mapped (place_in met) c.head;
  equations = [];
  rows = map (λ r. normal (renamed (place_in met) r)) c.rows;
  body = mapped_all (place_in met) c.body;
  sorts = map (sort_in c.sorts) met;
}

-- its rows in normal form, without true constant rows and rows equal to an earlier one
abbrev pub with_clean_rows : Clause → Clause
with_clean_rows c = record c { rows = cleaned c.rows }

-- The canonical form of a clause without equations: its rows are cleaned, and its variables are numbered through
-- the head, the atoms and then the rows.
unfoldable pub canonical_form : Clause → Clause
canonical_form c = numbered_by (variables_by_first_occurrence (with_clean_rows c)) (with_clean_rows c)

-- why a new clause is refused: a row whose normal form leaves the range, or a limit
pub data Refusal : Type 0 where
  Overflow : Refusal
  TooLarge : Limit → Refusal

abbrev pub all_within : List Row → Bool
all_within [] = true
all_within (r ∷ rs) = is_within (normal r) && all_within rs

-- the first limit that a canonical clause is past, in the order in which they are tested
unfoldable pub limit_past : Clause → Option Limit
limit_past c =
    if nat_lt 4096 (clause_size c) || nat_lt 256 (clause_depth c) then Some Shape
    else (if nat_lt 64 (length c.body) then Some Atoms
    else (if nat_lt 256 (length c.sorts) then Some Variables
    else (if nat_lt 128 (length c.rows) then Some Rows
    else None)))

abbrev pub unless_past : Option Limit → Clause → Result Clause Refusal
unless_past None c = Ok c
unless_past (Some limit) c = Err (TooLarge limit)

-- the canonical form of a new clause, or the first reason for which it is refused
unfoldable pub new_clause : Clause → Result Clause Refusal
new_clause c = if not (all_within c.rows) then Err Overflow else unless_past (limit_past (canonical_form c)) (canonical_form c)

-- the variables of each row rise, and no coefficient is 0
abbrev pub HasRisingRows : Clause → Type 0
HasRisingRows c = All (λ r. IsRising r.pairs) c.rows

-- a clause that is its own canonical form, in range and within the limits
pub record IsCanonical (c : Clause) : Type 0 where
  pub form : canonical_form c ≡ c
  pub rising : HasRisingRows c
  pub range : all_within c.rows ≡ true
  pub limits : limit_past c ≡ None
