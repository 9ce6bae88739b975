-- The rules on constraints: add, drop, project and equate.
use Rattle.std.specs.Prelude.{ℕ, ◌-◌, pos, ℤ, Bool, true, false, not, List, [], ◌∷◌, length, remove, slice_index_or, Option, Some, None, Result, Ok, Err, nat_eq, nat_lt, nat_le, if◌then◌else◌}
use Rattle.std.specs.List.{list_any}
use Rattle.clp_model.specs.declared.sort.Sort.{Sort}
use Rattle.clp_model.specs.declared.sort.Sort.TheVariants.{Any, Num}
use Rattle.clp_model.specs.declared.sort.Rel.TheVariants.{Eq}
use Rattle.clp_model.specs.declared.limit.Limit.TheVariants.{Rows}
use Rattle.clp_model.specs.Clauses.{Clause, Row, sort_in}
use Rattle.clp_model.specs.Trees.{variables_in}
use Rattle.linear_model.specs.Elimination.{elimination}
use Rattle.elim_rows.specs.Made.{made, all_within}
use Rattle.replace_model.specs.Rows.{with_row, without_row, projected, equated, equation_of}
use Rattle.farkas_check.specs.declared.cert.Cert.{Cert}
use Rattle.map_model.specs.declared.shown.Shown.{Shown}
use Rattle.map_model.specs.declared.shown.Shown.TheVariants.{Given}
use Rattle.map_model.specs.declared.step.Step.{Step}
use Rattle.map_model.specs.declared.step.Step.TheVariants.{Add, Drop, Project, Equate}
use Rattle.map_model.specs.declared.refusal.Refusal.{Refusal}
use Rattle.map_model.specs.declared.refusal.Refusal.TheVariants.{NoClause, NoRow, RepeatedPosition, LooseVariable, StillUsed, NotNumber, Overflow, TooLarge}
use Rattle.map_model.specs.State.{Entry, State, live_at}
use Rattle.map_model.specs.Rewriting.{rewritten, unless_broken, or_next}
use Rattle.fold_model.specs.Positions.{in_range}
use Rattle.map_model.specs.Showing.{shown_by}

-- ---- variables

abbrev pub is_number : Sort → Bool
is_number Any = false
is_number Num = true

-- the clause has no such variable
abbrev pub loose : Clause → ℕ → Option Refusal
loose c v = if in_range (length c.sorts) v then None else Some (LooseVariable v)

-- the variable stands for any value
abbrev pub not_number : Clause → ℕ → Option Refusal
not_number c v = if is_number (sort_in c.sorts v) then None else Some (NotNumber v)

-- the first of a row's variables that the clause doesn't have or that stands for any value
abbrev pub variables_broken : Clause → List (ℕ × ℤ) → Option Refusal
variables_broken c [] = None
variables_broken c (p ∷ ps) = or_next (loose c p.0) (or_next (not_number c p.0) (variables_broken c ps))

-- ---- one clause in the place of another

-- the state with this clause, which has the mark of the entry, in the place of the entry's
abbrev pub in_place : State → ℕ → Entry → Clause → Step → Result State Refusal
in_place s id e c step =
    rewritten s (record { dead = id ∷ []; made = record { clause = c; mark = e.mark; parents = id ∷ [] } ∷ []; defines = None; step = step })

-- the same, where the certificate is there with which the step is kept
abbrev pub in_place_by : State → ℕ → Entry → Clause → (Shown → Step) → Result Cert Refusal → Result State Refusal
in_place_by s id e c step (Ok certificate) = in_place s id e c (step (Given certificate))
in_place_by s id e c step (Err refusal) = Err refusal

-- what follows for the entry, if it is there
abbrev pub for_entry : ℕ → (Entry → Result State Refusal) → Option Entry → Result State Refusal
for_entry id next None = Err (NoClause id)
for_entry id next (Some e) = next e

-- ---- add C row R show ..

abbrev pub add_to : State → ℕ → Row → Shown → Entry → Result State Refusal
add_to s id row show e =
    unless_broken (variables_broken e.clause row.pairs)
    (in_place_by s id e (with_row e.clause row) (Add id row) (shown_by 1 e.clause.rows row show))

-- the state after `add C row R show ..`, or its first broken condition
abbrev pub add_after : State → ℕ → Row → Shown → Result State Refusal
add_after s id row show = for_entry id (add_to s id row show) (live_at s id)

-- ---- drop C row I show ..

-- the row at this position
abbrev pub row_of : List Row → ℕ → Row
row_of rows position = slice_index_or rows (position - 1) (record { rel = Eq; pairs = []; constant = pos 0 })

abbrev pub no_row : Clause → ℕ → Option Refusal
no_row c row = if in_range (length c.rows) row then None else Some (NoRow row)

abbrev pub drop_from : State → ℕ → ℕ → Shown → Entry → Result State Refusal
drop_from s id row show e =
    unless_broken (no_row e.clause row)
    (in_place_by s id e (without_row e.clause (row - 1)) (Drop id row) (shown_by 1 (remove e.clause.rows (row - 1)) (row_of e.clause.rows row) show))

-- the state after `drop C row I show ..`, or its first broken condition
abbrev pub drop_after : State → ℕ → ℕ → Shown → Result State Refusal
drop_after s id row show = for_entry id (drop_from s id row show) (live_at s id)

-- ---- project C var V

-- the variable is in the head or an atom
abbrev pub still_used : Clause → ℕ → Option Refusal
still_used c v = if list_any (nat_eq v) (variables_in (c.head ∷ c.body)) then Some (StillUsed v) else None

-- a row that the elimination makes is out of range, or there are too many
abbrev pub elimination_broken : Clause → ℕ → Option Refusal
elimination_broken c v =
    if not (all_within (made v c.rows)) then Some (Overflow 0)
    else (if nat_lt 128 (length (elimination v c.rows)) then Some (TooLarge Rows)
    else None)

abbrev pub project_broken : Clause → ℕ → Option Refusal
project_broken c v = or_next (loose c v) (or_next (not_number c v) (or_next (still_used c v) (elimination_broken c v)))

abbrev pub project_from : State → ℕ → ℕ → Entry → Result State Refusal
project_from s id v e = unless_broken (project_broken e.clause v) (in_place s id e (projected e.clause v) (Project id v))

-- the state after `project C var V`, or its first broken condition
abbrev pub project_after : State → ℕ → ℕ → Result State Refusal
project_after s id v = for_entry id (project_from s id v) (live_at s id)

-- ---- equate C var V to U show ..

abbrev pub same_variable : ℕ → ℕ → Option Refusal
same_variable v u = if nat_eq v u then Some (RepeatedPosition u) else None

abbrev pub equate_broken : Clause → ℕ → ℕ → Option Refusal
equate_broken c v u = or_next (loose c v) (or_next (loose c u) (or_next (same_variable v u) (or_next (not_number c v) (not_number c u))))

abbrev pub equate_in : State → ℕ → ℕ → ℕ → Shown → Entry → Result State Refusal
equate_in s id v u show e =
    unless_broken (equate_broken e.clause v u)
    (in_place_by s id e (equated e.clause v u) (Equate id v u) (shown_by 1 e.clause.rows (equation_of v u) show))

-- the state after `equate C var V to U show ..`, or its first broken condition
abbrev pub equate_after : State → ℕ → ℕ → ℕ → Shown → Result State Refusal
equate_after s id v u show = for_entry id (equate_in s id v u show) (live_at s id)
