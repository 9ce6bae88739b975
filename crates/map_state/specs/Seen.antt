-- What contracts see of a state and of a change, and what it stands for.
use Rattle.std.specs.Prelude.{ℕ, ◌+◌, ◌≤◌, ◌≡◌, List, [], ◌∷◌, map, length, Option, Some, None, option_map}
use Rattle.clp_model.specs.declared.tree.Tree.{Tree}
use Rattle.clp_model.specs.declared.tree.Variable.{Variable}
use Rattle.clp_model.specs.declared.predicate.Pred.{Pred}
use Rattle.clp_model.specs.Clauses.{Clause}
use Rattle.clause_store.specs.declared.clause.Clause.{Clause as Kept}
use Rattle.clause_store.specs.Stored.{clause_in, IsStored}
use Rattle.map_model.specs.declared.step.Step.{Step}
use Rattle.map_model.specs.State.{Entry, State, live_count, defined_of}
use Rattle.map_state.specs.declared.entry.Entry.{Entry as Row}

-- a store is seen as its trees
abbrev pub Trees : Type 0
Trees = List (Tree Variable)

-- the parts of a state, and how many entries, kept definitions, their predicates and steps there is room for
pub record Seen : Type 0 where
  pub store : Trees
  pub entries : List (Option Row)
  pub definitions : List Kept
  pub defined : List Pred
  pub initials : List Pred
  pub history : List Step
  pub live : ℕ
  pub nodes : ℕ
  pub room : ℕ
  pub definition_room : ℕ
  pub defined_room : ℕ
  pub history_room : ℕ

abbrev pub entry_in : Trees → Row → Entry
entry_in store e =
    record { clause = clause_in store e.clause; mark = e.mark; live = e.live; made_at = e.made_at; parents = e.parents }

abbrev pub entries_in : Trees → List (Option Row) → List (Option Entry)
entries_in store rows = map (option_map (entry_in store)) rows

abbrev pub definitions_in : Trees → List Kept → List Clause
definitions_in store kept = map (clause_in store) kept

-- the state that the parts stand for
abbrev pub state_of : Seen → State
state_of seen =
    record {
      entries = entries_in seen.store seen.entries;
      definitions = definitions_in seen.store seen.definitions;
      initials = seen.initials;
      steps = seen.history;
      nodes = seen.nodes;
    }

-- each clause is of the store, canonical and within the limits
abbrev pub AllStored : Trees → List (Option Row) → Type 0
AllStored store [] = Unit {0}
AllStored store (None ∷ rows) = AllStored store rows
AllStored store (Some e ∷ rows) = IsStored store e.clause × AllStored store rows

-- the same of kept definitions
abbrev pub AllKept : Trees → List Kept → Type 0
AllKept store [] = Unit {0}
AllKept store (c ∷ cs) = IsStored store c × AllKept store cs

-- what is true of every state
pub record IsSound (seen : Seen) : Type 0 where
  pub stored : AllStored seen.store seen.entries
  pub kept : AllKept seen.store seen.definitions
  pub defined_is : seen.defined ≡ defined_of (state_of seen)
  pub live_is : seen.live ≡ live_count (state_of seen)
  pub few_live : seen.live ≤ 4096
  pub few_nodes : seen.nodes ≤ 8388608
  pub few_steps : length seen.history ≤ 100000
  pub few_ids : length seen.entries ≤ seen.nodes + 4096
