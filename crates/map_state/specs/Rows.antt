-- Entries, loaded clauses and new clauses as the code has them.
use Rattle.std.specs.Prelude.{ℕ, suc, ◌+◌, ◌-◌, ◌<◌, ◌≤◌, ◌≡◌, Bool, true, false, List, [], ◌∷◌, map, Option, Some, None}
use Rattle.clause_store.specs.declared.clause.Clause.{Clause as Kept}
use Rattle.clause_store.specs.Stored.{clause_in}
use Rattle.clp_model.specs.declared.predicate.Pred.{Pred}
use Rattle.clp_model.specs.Canonical.{clause_size}
use Rattle.map_state.specs.declared.entry.Entry.{Entry as Row}
use Rattle.map_state.specs.declared.change.Definition.{Definition}
use Rattle.map_state.specs.declared.change.Made.{Made}
use Rattle.map_model.specs.Rewriting.{changed_at}
use Rattle.map_state.specs.Seen.{Trees, entries_in, AllStored}
use Rattle.map_state.specs.Changes.{AllNew, made_entries}

abbrev pub dead_row : Option Row → Option Row
dead_row None = None
dead_row (Some e) = Some (record e { live = false })

abbrev pub rows_killed : List (Option Row) → List ℕ → List (Option Row)
rows_killed rows [] = rows
rows_killed rows (id ∷ ids) = rows_killed (changed_at dead_row rows (id - 1)) ids

abbrev pub is_live_row : Option Row → Bool
is_live_row None = false
is_live_row (Some e) = e.live

-- ids from 1 to the number of rows
abbrev pub AllIds : ℕ → List ℕ → Type 0
AllIds count [] = Unit {0}
AllIds count (id ∷ ids) = ((0 < id) × (id ≤ count)) × AllIds count ids

abbrev pub loaded_row : Option Kept → Option Row
loaded_row None = None
loaded_row (Some c) = Some (record { clause = c; mark = true; live = true; made_at = 0; parents = [] })

-- the places that hold a clause
abbrev pub count_of : List (Option Kept) → ℕ
count_of [] = 0
count_of (None ∷ clauses) = count_of clauses
count_of (Some c ∷ clauses) = suc (count_of clauses)

-- the sizes of new clauses together
abbrev pub nodes_of_made : Trees → List Made → ℕ
nodes_of_made store [] = 0
nodes_of_made store (m ∷ ms) = clause_size (clause_in store m.clause) + nodes_of_made store ms

-- the definition that the first of new entries is kept as
abbrev pub kept_first : Option Pred → List (Option Row) → Option Definition
kept_first None rows = None
kept_first (Some p) [] = None
kept_first (Some p) (None ∷ rows) = None
kept_first (Some p) (Some e ∷ rows) = Some (record { pred = p; clause = e.clause })

-- what a definition adds to the kept ones
abbrev pub kept_clauses : Option Definition → List Kept
kept_clauses None = []
kept_clauses (Some d) = d.clause ∷ []

abbrev pub kept_preds : Option Definition → List Pred
kept_preds None = []
kept_preds (Some d) = d.pred ∷ []

-- the rows stand for the entries of new clauses, and are as new entries are
pub record AreMade (store : Trees) (number : ℕ) (scratch : Trees) (made : List Made) (rows : List (Option Row)) : Type 0 where
  pub are : entries_in store rows ≡ map Some (made_entries number scratch made)
  pub stored : AllStored store rows
  pub fresh : AllNew rows
