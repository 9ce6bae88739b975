-- A change is put into the state's store.
use Rattle.std.proofs.Common.{◌≡◌, ℕ, ◌+◌, ◌≤◌, List, [], ◌∷◌, length, refl, ap, ◌∙◌, sym, subst, arith}
use Rattle.std.specs.Prelude.{Option, Some, None}
use Rattle.term_store.specs.Trees.{Keeps}
use Rattle.clp_model.specs.Predicates.{predicate_of}
use Rattle.clause_store.specs.Stored.{clause_in}
use Rattle.clp_model.specs.declared.predicate.Pred.{Pred}
use Rattle.clause_store.specs.declared.clause.Clause.{Clause as Kept}
use Rattle.map_model.specs.declared.step.Step.{Step}
use Rattle.map_state.specs.declared.entry.Entry.{Entry as Row}
use Rattle.map_state.specs.declared.change.Change.{Change}
use Rattle.map_state.specs.declared.change.Definition.{Definition}
use Rattle.map_state.specs.declared.change.Made.{Made}
use Rattle.map_state.specs.declared.change.Ready.{Ready}
use Rattle.map_model.specs.State.{Entry, State, live_count, nodes_of, defined_of}
use Rattle.map_model.specs.Rewriting.{state_limit, replaced}
use Rattle.map_state.specs.Seen.{Trees, Seen, IsSound, AllStored, AllKept, state_of, entry_in, entries_in, definitions_in}
use Rattle.map_state.specs.Changes.{IsChange, IsReady, Defines, IsOnly, MayKeep, made_entry, present, kept_predicate, changed, ready_state, made_entries, AreLive}
use Rattle.map_state.specs.Rows.{AreMade, nodes_of_made, kept_first}
use Rattle.map_state.proofs.KeptClauses.{entries_kept, all_stored_kept, definitions_kept, all_kept_kept}
use Rattle.map_state.proofs.Counting.{live_changed, few_dead, within, present_some, made_nodes}

-- the parts of a state whose store has grown
pub record IsGrown (old new : Seen) : Type 0 where
  pub keeps : Keeps old.store new.store
  pub entries : new.entries ≡ old.entries
  pub definitions : new.definitions ≡ old.definitions
  pub defined : new.defined ≡ old.defined
  pub initials : new.initials ≡ old.initials
  pub history : new.history ≡ old.history
  pub live : new.live ≡ old.live
  pub nodes : new.nodes ≡ old.nodes

module _ (old new : Seen) (sound : IsSound old) (is : IsGrown old new) where
  same_entries : entries_in new.store new.entries ≡ entries_in old.store old.entries
  same_entries = ap (entries_in new.store) is.entries ∙ entries_kept old.store new.store is.keeps old.entries sound.stored

  same_definitions : definitions_in new.store new.definitions ≡ definitions_in old.store old.definitions
  same_definitions = ap (definitions_in new.store) is.definitions ∙ definitions_kept old.store new.store is.keeps old.definitions sound.kept

  pub grown_state : state_of new ≡ state_of old
  grown_state = let a = same_entries in let f = same_definitions in let b = is.initials in let d = is.history in let e = is.nodes in cc

  pub grown_sound : IsSound new
  grown_sound =
      let P : List (Option Row) → Type 0 = AllStored new.store in
      let Q : List Kept → Type 0 = AllKept new.store in
      record {
        kept = subst Q (sym is.definitions) (all_kept_kept old.store new.store is.keeps old.definitions sound.kept);
        defined_is = is.defined ∙ sound.defined_is ∙ ap defined_of (sym grown_state);
        stored = subst P (sym is.entries) (all_stored_kept old.store new.store is.keeps old.entries sound.stored);
        live_is = is.live ∙ sound.live_is ∙ ap live_count (sym grown_state);
        few_live = omega (arith, is.live, sound.few_live);
        few_nodes = omega (arith, is.nodes, sound.few_nodes);
        few_steps = omega (arith, ap (λ (xs : List Step). length xs) is.history, sound.few_steps);
        few_ids = omega (arith, ap (λ (xs : List (Option Row)). length xs) is.entries, is.nodes, sound.few_ids);
      }

-- the parts that may change while a change is reserved, in the place of the old ones
abbrev with_parts : Seen → Trees → List (Option Row) → List Kept → List Pred → List Step → Seen
with_parts old store entries definitions defined history =
    record old { store = store; entries = entries; definitions = definitions; defined = defined; history = history; room = 0; definition_room = 0; defined_room = 0; history_room = 0 }

pub grown : (old : Seen) (store : Trees) (entries : List (Option Row)) (definitions : List Kept) (defined : List Pred) (history : List Step) → IsSound old → Keeps old.store store → entries ≡ old.entries → definitions ≡ old.definitions → defined ≡ old.defined → history ≡ old.history
    → state_of (with_parts old store entries definitions defined history) ≡ state_of old
grown old store entries definitions defined history sound keeps e d p h =
    grown_state old (with_parts old store entries definitions defined history) sound
    (record { keeps = keeps; entries = e; definitions = d; defined = p; initials = refl; history = h; live = refl; nodes = refl })

some_same : (e f : Entry) → ◌≡◌ {A = List (Option Entry)} (Some e ∷ []) (Some f ∷ []) → e ≡ f
some_same e f h = cc

pub few_made : (seen : Seen) (change : Change) → IsSound seen → IsChange (state_of seen) change → state_limit (changed (state_of seen) change) ≡ None → length change.made ≤ 4096
few_made seen change sound is_change limit =
    let limits = within (changed (state_of seen) change) limit in
    let lives = live_changed (state_of seen) change is_change in
    let dead = few_dead (state_of seen) change is_change in
    omega arith

-- ---- the definition that is kept
-- the one new clause, in the state's store
one_kept : (store : Trees) (number : ℕ) (scratch : Trees) (m : Made) (p : Pred) (e : Row) → AreMade store number scratch (m ∷ []) (Some e ∷ []) → predicate_of (clause_in scratch m.clause).head ≡ p
    → IsOnly store (entry_in store e ∷ []) (record { pred = p; clause = e.clause })
one_kept store number scratch m p e are head =
    let same : entry_in store e ≡ made_entry number scratch m = some_same (entry_in store e) (made_entry number scratch m) are.are in
    record { stored = are.stored.0; only = refl; head = ap (λ (x : Entry). predicate_of x.clause.head) same ∙ head }

first_kept : (store : Trees) (number : ℕ) (scratch : Trees) (s : State) (made : List Made) (defines : Option Pred) (rows : List (Option Row)) → AreMade store number scratch made rows → Defines s scratch made defines
    → kept_predicate (kept_first defines rows) ≡ defines
first_kept store number scratch s made None rows are is = refl
first_kept store number scratch s [] (Some p) rows are is = absurd is
first_kept store number scratch s (m ∷ []) (Some p) [] are is = let h = are.are in cc
first_kept store number scratch s (m ∷ []) (Some p) (None ∷ rows) are is = absurd are.fresh
first_kept store number scratch s (m ∷ []) (Some p) (Some e ∷ rows) are is = refl
first_kept store number scratch s (m ∷ n ∷ ms) (Some p) rows are is = absurd is

only_kept : (store : Trees) (number : ℕ) (scratch : Trees) (s : State) (made : List Made) (defines : Option Pred) (rows : List (Option Row)) → AreMade store number scratch made rows → Defines s scratch made defines
    → MayKeep store (present (entries_in store rows)) (kept_first defines rows)
only_kept store number scratch s made None rows are is = tt
only_kept store number scratch s [] (Some p) rows are is = absurd is
only_kept store number scratch s (m ∷ []) (Some p) [] are is = let h = are.are in cc
only_kept store number scratch s (m ∷ []) (Some p) (None ∷ rows) are is = absurd are.fresh
only_kept store number scratch s (m ∷ []) (Some p) (Some e ∷ []) are is = one_kept store number scratch m p e are is.head
only_kept store number scratch s (m ∷ []) (Some p) (Some e ∷ r ∷ rows) are is = let h = are.are in cc
only_kept store number scratch s (m ∷ n ∷ ms) (Some p) rows are is = absurd is

-- the change as it stands in the state's store
pub record IsReserved (new : Seen) (change : Change) (ready : Ready) : Type 0 where
  pub dead : ready.dead ≡ change.dead
  pub made : AreMade new.store (length new.history + 1) change.scratch change.made ready.entries.items
  pub kept : ready.kept ≡ kept_first change.defines ready.entries.items
  pub nodes : ready.nodes ≡ nodes_of_made change.scratch change.made
  pub step : ready.step ≡ change.step
  pub room : length ready.entries.items ≤ new.room
  pub definition_room : 1 ≤ new.definition_room
  pub defined_room : 1 ≤ new.defined_room
  pub history_room : 1 ≤ new.history_room

module _ (new : Seen) (change : Change) (ready : Ready) (is_change : IsChange (state_of new) change) (limit : state_limit (changed (state_of new) change) ≡ None) (is : IsReserved new change ready) where
  made : List Entry
  made = made_entries (length new.history + 1) change.scratch change.made

  the_made : present (entries_in new.store ready.entries.items) ≡ made_entries (length new.history + 1) change.scratch change.made
  the_made = ap present is.made.are ∙ present_some (made_entries (length new.history + 1) change.scratch change.made)

  the_kept : kept_predicate ready.kept ≡ change.defines
  the_kept = ap kept_predicate is.kept ∙ first_kept new.store (length new.history + 1) change.scratch (state_of new) change.made change.defines ready.entries.items is.made is_change.defines

  pub reserved_state : ready_state new ready ≡ changed (state_of new) change
  reserved_state =
      ap (λ ids. replaced (state_of new) ids (present (entries_in new.store ready.entries.items)) (kept_predicate ready.kept) ready.step) is.dead
      ∙ ap (λ es. replaced (state_of new) change.dead es (kept_predicate ready.kept) ready.step) the_made
      ∙ ap (λ p. replaced (state_of new) change.dead (made_entries (length new.history + 1) change.scratch change.made) p ready.step) the_kept
      ∙ ap (λ st. replaced (state_of new) change.dead (made_entries (length new.history + 1) change.scratch change.made) change.defines st) is.step

  pub reserved_ready : IsReady new ready
  reserved_ready =
      let P : List ℕ → Type 0 = AreLive (state_of new).entries in
      let K : Option Definition → Type 0 = MayKeep new.store (present (entries_in new.store ready.entries.items)) in
      record {
        dead = subst P (sym is.dead) is_change.dead;
        stored = is.made.stored;
        fresh = is.made.fresh;
        kept = subst K (sym is.kept) (only_kept new.store (length new.history + 1) change.scratch (state_of new) change.made change.defines ready.entries.items is.made is_change.defines);
        nodes = is.nodes ∙ sym (ap nodes_of the_made ∙ made_nodes (length new.history + 1) change.scratch change.made);
        within = ap state_limit reserved_state ∙ limit;
        steps = is_change.steps;
        room = is.room;
        definition_room = is.definition_room;
        defined_room = is.defined_room;
        history_room = is.history_room;
      }
