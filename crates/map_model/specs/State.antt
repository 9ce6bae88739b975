-- The state of a run.
use Rattle.std.specs.Prelude.{ℕ, suc, ◌+◌, ◌-◌, Bool, true, List, [], ◌∷◌, ◌++◌, map, length, Option, Some, None, option_map, slice_index_or, nat_eq, nat_lt, if◌then◌else◌}
use Rattle.std.specs.List.{list_any}
use Rattle.clp_model.specs.declared.predicate.Pred.{Pred}
use Rattle.clp_model.specs.Clauses.{Clause}
use Rattle.clp_model.specs.Canonical.{clause_size}
use Rattle.clp_model.specs.Predicates.{predicate_of, same_predicate}
use Rattle.clause_model.specs.Load.{sizes_of}
use Rattle.map_model.specs.declared.step.Step.{Step}

-- a clause with its mark, whether it is live, the number of the step that made it (0 for a loaded
-- clause), and the ids of the clauses that it was made from
pub record Entry : Type 0 where
  pub clause : Clause
  pub mark : Bool
  pub live : Bool
  pub made_at : ℕ
  pub parents : List ℕ

-- the entries by id, from 1 (an id may be left empty), the kept definitions in order, the initial
-- predicates, the filled steps, and the sizes of all clauses made so far
pub record State : Type 0 where
  pub entries : List (Option Entry)
  pub definitions : List Clause
  pub initials : List Pred
  pub steps : List Step
  pub nodes : ℕ

-- the entries that pass a test, in order
abbrev pub entries_where : (Entry → Bool) → List (Option Entry) → List Entry
entries_where test [] = []
entries_where test (None ∷ entries) = entries_where test entries
entries_where test (Some e ∷ entries) = if test e then e ∷ entries_where test entries else entries_where test entries

abbrev pub is_live : Entry → Bool
is_live e = e.live

-- the clause of the entry was made at step 0
abbrev pub is_loaded : Entry → Bool
is_loaded e = nat_eq e.made_at 0

abbrev pub clauses_of : List Entry → List Clause
clauses_of entries = map (λ e. e.clause) entries

-- the live entries, by rising id
abbrev pub live_entries : State → List Entry
live_entries s = entries_where is_live s.entries

-- the program of a state: its live clauses, by rising id
abbrev pub live_clauses : State → List Clause
live_clauses s = clauses_of (live_entries s)

-- the clauses made at step 0, and the kept definitions
abbrev pub base_clauses : State → List Clause
base_clauses s = clauses_of (entries_where is_loaded s.entries) ++ s.definitions

-- the ids of the entries that pass a test, where the first has this id
abbrev pub ids_where : (Entry → Bool) → ℕ → List (Option Entry) → List ℕ
ids_where test id [] = []
ids_where test id (None ∷ entries) = ids_where test (suc id) entries
ids_where test id (Some e ∷ entries) = if test e then id ∷ ids_where test (suc id) entries else ids_where test (suc id) entries

-- the ids of the live clauses, in rising order
abbrev pub live_ids_of : State → List ℕ
live_ids_of s = ids_where is_live 1 s.entries

-- how many clauses are live
abbrev pub live_count : State → ℕ
live_count s = length (live_entries s)

-- the entry with this id; ids begin at 1
abbrev pub entry_of : List (Option Entry) → ℕ → Option Entry
entry_of entries id = if nat_lt 0 id then slice_index_or entries (id - 1) None else None

-- the entry of a state with this id
abbrev pub entry_at : State → ℕ → Option Entry
entry_at s id = entry_of s.entries id

-- the entry, if there is one and it is live
abbrev pub if_live : Option Entry → Option Entry
if_live None = None
if_live (Some e) = if e.live then Some e else None

-- the entry with this id, if it is live
abbrev pub live_at : State → ℕ → Option Entry
live_at s id = if_live (entry_at s id)

-- the first of these definitions that defines the predicate
abbrev pub definition_among : List Clause → Pred → Option Clause
definition_among [] p = None
definition_among (c ∷ cs) p = if same_predicate (predicate_of c.head) p then Some c else definition_among cs p

-- the kept definition of a predicate
abbrev pub definition_of : State → Pred → Option Clause
definition_of s p = definition_among s.definitions p

-- the predicates of the kept definitions, in order
abbrev pub defined_of : State → List Pred
defined_of s = map (λ c. predicate_of c.head) s.definitions

-- the predicate is in the list
abbrev pub is_among : List Pred → Pred → Bool
is_among preds p = list_any (λ q. same_predicate q p) preds

-- a loaded clause is marked and live
abbrev pub loaded_entry : Clause → Entry
loaded_entry c = record { clause = c; mark = true; live = true; made_at = 0; parents = [] }

-- the sizes of the clauses of these entries together
abbrev pub nodes_of : List Entry → ℕ
nodes_of [] = 0
nodes_of (e ∷ es) = clause_size e.clause + nodes_of es

-- the state of a loaded program; a source clause without instance leaves its id empty
abbrev pub start_state : List (Option Clause) → List Pred → State
start_state clauses predicates =
    record {
      entries = map (option_map loaded_entry) clauses;
      definitions = [];
      initials = predicates;
      steps = [];
      nodes = sizes_of clauses;
    }
