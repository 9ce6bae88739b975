-- What a change makes of a state, and when it may take effect.
use Rattle.std.specs.Prelude.{ℕ, ◌+◌, ◌-◌, ◌<◌, ◌≤◌, ◌≡◌, true, false, List, [], ◌∷◌, map, length, Option, Some, None, option_map, IsSome, Result}
use Rattle.clp_model.specs.declared.predicate.Pred.{Pred}
use Rattle.clp_model.specs.Predicates.{predicate_of}
use Rattle.clause_store.specs.Stored.{clause_in, raw_in, IsStored}
use Rattle.map_model.specs.declared.refusal.Refusal.{Refusal}
use Rattle.map_model.specs.declared.step.Step.{Step}
use Rattle.map_model.specs.State.{Entry, State, entry_of, if_live, live_at, nodes_of, clauses_of, defined_of, is_among}
use Rattle.map_model.specs.Rewriting.{new_entry, changed_at, dead_entry, replaced, state_limit}
use Rattle.map_model.specs.Replacing.{for_entry, in_place}
use Rattle.map_state.specs.declared.entry.Entry.{Entry as Row}
use Rattle.map_state.specs.declared.change.Definition.{Definition}
use Rattle.map_state.specs.declared.change.Made.{Made}
use Rattle.map_state.specs.declared.change.Change.{Change}
use Rattle.map_state.specs.declared.change.Ready.{Ready}
use Rattle.map_state.specs.declared.change.Replacement.{Replacement}
use Rattle.map_state.specs.Seen.{Trees, Seen, state_of, entries_in, AllStored}

-- the entry of a clause that the step of this number makes
abbrev pub made_entry : ℕ → Trees → Made → Entry
made_entry number store m = new_entry number m.mark m.parents (clause_in store m.clause)

-- the same of all clauses that a change makes
abbrev pub made_entries : ℕ → Trees → List Made → List Entry
made_entries number store made = map (made_entry number store) made

-- the state that a change makes
abbrev pub changed : State → Change → State
changed s change = replaced s change.dead (made_entries (length s.steps + 1) change.scratch change.made) change.defines change.step

-- the change that puts one clause in the place of another
abbrev pub replacement : Trees → ℕ → Made → Step → Change
replacement scratch id made step = record { dead = id ∷ []; made = made ∷ []; defines = None; step = step; scratch = scratch }

-- the state where a clause of these parts, with the mark of the live clause with this id, is in the place of this one
abbrev pub placed : State → ℕ → Replacement → Result State Refusal
placed s id r = for_entry id (λ e. in_place s id e (raw_in r.scratch r.raw) r.step) (live_at s id)

-- the change by which a clause goes
abbrev pub removal : Trees → ℕ → Step → Change
removal scratch id step = record { dead = id ∷ []; made = []; defines = None; step = step; scratch = scratch }

-- each id is live, and none repeats
abbrev pub AreLive : List (Option Entry) → List ℕ → Type 0
AreLive entries [] = Unit {0}
AreLive entries (id ∷ ids) = IsSome (if_live (entry_of entries id)) × AreLive (changed_at dead_entry entries (id - 1)) ids

-- each clause is of the store, canonical and within the limits
abbrev pub AllMade : Trees → List Made → Type 0
AllMade store [] = Unit {0}
AllMade store (m ∷ ms) = IsStored store m.clause × AllMade store ms

-- an unmarked clause whose head has a predicate that is neither initial nor defined yet
pub record IsDefinition (s : State) (store : Trees) (m : Made) (p : Pred) : Type 0 where
  pub unmarked : m.mark ≡ false
  pub head : predicate_of (clause_in store m.clause).head ≡ p
  pub not_initial : is_among s.initials p ≡ false
  pub not_defined : is_among (defined_of s) p ≡ false

-- a change that defines a predicate makes one clause, its definition
abbrev pub Defines : State → Trees → List Made → Option Pred → Type 0
Defines s store made None = Unit {0}
Defines s store [] (Some p) = ⊥
Defines s store (m ∷ []) (Some p) = IsDefinition s store m p
Defines s store (m ∷ n ∷ ms) (Some p) = ⊥

-- a change that may be made of this state, limits apart
pub record IsChange (s : State) (change : Change) : Type 0 where
  pub dead : AreLive s.entries change.dead
  pub made : AllMade change.scratch change.made
  pub defines : Defines s change.scratch change.made change.defines
  pub steps : length s.steps < 100000

-- the elements at the places that aren't empty
abbrev pub present : {A : Type 0} → List (Option A) → List A
present [] = []
present (None ∷ xs) = present xs
present (Some x ∷ xs) = x ∷ present xs

-- the predicate that a kept definition defines
abbrev pub kept_predicate : Option Definition → Option Pred
kept_predicate kept = option_map (λ d. d.pred) kept

-- the state that a reserved change makes
abbrev pub ready_state : Seen → Ready → State
ready_state seen ready =
    replaced (state_of seen) ready.dead (present (entries_in seen.store ready.entries.items)) (kept_predicate ready.kept) ready.step

-- no id is empty, and each entry is live
abbrev pub AllNew : List (Option Row) → Type 0
AllNew [] = Unit {0}
AllNew (None ∷ rows) = ⊥
AllNew (Some e ∷ rows) = (e.live ≡ true) × AllNew rows

-- the clause is the only new one, and its head has the predicate
pub record IsOnly (store : Trees) (entries : List Entry) (d : Definition) : Type 0 where
  pub stored : IsStored store d.clause
  pub only : clauses_of entries ≡ clause_in store d.clause ∷ []
  pub head : predicate_of (clause_in store d.clause).head ≡ d.pred

-- nothing is kept, or the only new clause
abbrev pub MayKeep : Trees → List Entry → Option Definition → Type 0
MayKeep store entries None = Unit {0}
MayKeep store entries (Some d) = IsOnly store entries d

-- a reserved change for which the state has room
pub record IsReady (seen : Seen) (ready : Ready) : Type 0 where
  pub dead : AreLive (state_of seen).entries ready.dead
  pub stored : AllStored seen.store ready.entries.items
  pub fresh : AllNew ready.entries.items
  pub kept : MayKeep seen.store (present (entries_in seen.store ready.entries.items)) ready.kept
  pub nodes : ready.nodes ≡ nodes_of (present (entries_in seen.store ready.entries.items))
  pub within : state_limit (ready_state seen ready) ≡ None
  pub steps : length seen.history < 100000
  pub room : length ready.entries.items ≤ seen.room
  pub definition_room : 1 ≤ seen.definition_room
  pub defined_room : 1 ≤ seen.defined_room
  pub history_room : 1 ≤ seen.history_room
