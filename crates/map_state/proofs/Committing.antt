-- A reserved change takes effect.
use Rattle.std.proofs.Common.{◌≡◌, ℕ, ◌+◌, ◌≤◌, List, [], ◌∷◌, ◌++◌, length, refl, ap, ◌∙◌, sym, subst, arith, map, length-append}
use Rattle.std.specs.Prelude.{Option, Some, None}
use Rattle.map_model.specs.declared.step.Step.{Step}
use Rattle.map_state.specs.declared.entry.Entry.{Entry as Row}
use Rattle.map_state.specs.declared.change.Definition.{Definition}
use Rattle.map_state.specs.declared.change.Ready.{Ready}
use Rattle.clp_model.specs.declared.predicate.Pred.{Pred}
use Rattle.clp_model.specs.Clauses.{Clause}
use Rattle.clp_model.specs.Predicates.{predicate_of}
use Rattle.clause_store.specs.declared.clause.Clause.{Clause as Kept}
use Rattle.clause_store.specs.Stored.{clause_in}
use Rattle.map_model.specs.State.{Entry, State, live_count, is_live, entries_where, nodes_of, defined_of}
use Rattle.map_model.specs.Rewriting.{killed, kept_by}
use Rattle.map_state.specs.Seen.{Trees, Seen, IsSound, AllStored, AllKept, state_of, entries_in, definitions_in}
use Rattle.map_state.specs.Changes.{IsReady, MayKeep, present, kept_predicate, ready_state}
use Rattle.map_state.specs.Rows.{rows_killed, AllIds, kept_clauses, kept_preds}
use Rattle.map_state.proofs.Killing.{killed_in, stored_killed, length_killed, killed_fewer, live_ids}
use Rattle.map_state.proofs.Counting.{live_after, within, all_present, new_live, present_length, as_many_nodes, in_append, stored_append, length_in}

-- how many entries a reserved change can make and kill
pub record Counts (seen : Seen) (ready : Ready) : Type 0 where
  pub made : length ready.entries.items ≤ 8192
  pub dead : length ready.dead ≤ seen.live
  pub nodes : seen.nodes + ready.nodes ≤ 8388608

pub counts : (seen : Seen) (ready : Ready) → IsSound seen → IsReady seen ready → Counts seen ready
counts seen ready sound is_ready =
    let limits = within (ready_state seen ready) is_ready.within in
    let more = map Some (present (entries_in seen.store ready.entries.items)) in
    let count = live_after (state_of seen).entries ready.dead more is_ready.dead in
    let fresh = ap (λ es. length (entries_where is_live es)) (sym (all_present seen.store ready.entries.items is_ready.fresh)) ∙ new_live seen.store ready.entries.items is_ready.fresh in
    let fewer = killed_fewer (state_of seen).entries ready.dead is_ready.dead in
    let live = sound.live_is in
    let few = sound.few_live in
    let nodes = is_ready.nodes in
    record { made = omega arith; dead = omega arith; nodes = omega arith }

pub ids_ready : (seen : Seen) (ready : Ready) (n : ℕ) → length seen.entries ≡ n → IsReady seen ready → AllIds n ready.dead
ids_ready seen ready n e is_ready = live_ids n (state_of seen).entries ready.dead (length_in seen.store seen.entries ∙ e) is_ready.dead

-- ---- the definitions
definitions_append : (store : Trees) (xs ys : List Kept) → definitions_in store (xs ++ ys) ≡ definitions_in store xs ++ definitions_in store ys
definitions_append store [] ys = refl
definitions_append store (x ∷ xs) ys = ap (λ cs. clause_in store x ∷ cs) (definitions_append store xs ys)

predicates_append : (xs ys : List Clause) → map (λ (c : Clause). predicate_of c.head) (xs ++ ys) ≡ map (λ (c : Clause). predicate_of c.head) xs ++ map (λ (c : Clause). predicate_of c.head) ys
predicates_append [] ys = refl
predicates_append (x ∷ xs) ys = ap (λ ps. predicate_of x.head ∷ ps) (predicates_append xs ys)

kept_append : (store : Trees) (xs ys : List Kept) → AllKept store xs → AllKept store ys → AllKept store (xs ++ ys)
kept_append store [] ys a b = b
kept_append store (x ∷ xs) ys a b = (a.0, kept_append store xs ys a.1 b)

-- what is added to the definitions and to their predicates
added : (store : Trees) (entries : List Entry) (kept : Option Definition) → MayKeep store entries kept → definitions_in store (kept_clauses kept) ≡ kept_by (kept_predicate kept) entries
added store entries None h = refl
added store entries (Some d) h = sym h.only

added_preds : (store : Trees) (entries : List Entry) (kept : Option Definition) → MayKeep store entries kept → map (λ (c : Clause). predicate_of c.head) (definitions_in store (kept_clauses kept)) ≡ kept_preds kept
added_preds store entries None h = refl
added_preds store entries (Some d) h = ap (λ (p : Pred). p ∷ []) h.head

added_stored : (store : Trees) (entries : List Entry) (kept : Option Definition) → MayKeep store entries kept → AllKept store (kept_clauses kept)
added_stored store entries None h = tt
added_stored store entries (Some d) h = (h.stored, tt)

-- the parts of a state after a reserved change
pub record IsCommitted (old : Seen) (ready : Ready) (new : Seen) : Type 0 where
  pub store : new.store ≡ old.store
  pub entries : new.entries ≡ rows_killed old.entries ready.dead ++ ready.entries.items
  pub definitions : new.definitions ≡ old.definitions ++ kept_clauses ready.kept
  pub defined : new.defined ≡ old.defined ++ kept_preds ready.kept
  pub initials : new.initials ≡ old.initials
  pub history : new.history ≡ old.history ++ ready.step ∷ []
  pub live : new.live + length ready.dead ≡ old.live + length ready.entries.items
  pub nodes : new.nodes ≡ old.nodes + ready.nodes

module _ (old new : Seen) (ready : Ready) (sound : IsSound old) (is_ready : IsReady old ready) (is : IsCommitted old ready new) where
  more : List (Option Entry)
  more = entries_in old.store ready.entries.items

  new_entries : entries_in new.store new.entries ≡ killed (state_of old).entries ready.dead ++ map Some (present (entries_in old.store ready.entries.items))
  new_entries =
      let a = ap (λ st. entries_in st new.entries) is.store in
      let b = ap (entries_in old.store) is.entries in
      let d = in_append old.store (rows_killed old.entries ready.dead) ready.entries.items in
      let e = ap (λ es. es ++ entries_in old.store ready.entries.items) (killed_in old.store old.entries ready.dead) in
      let f = ap (λ es. killed (entries_in old.store old.entries) ready.dead ++ es) (all_present old.store ready.entries.items is_ready.fresh) in
      a ∙ b ∙ d ∙ e ∙ f

  -- in the store as it was
  old_definitions : definitions_in old.store new.definitions ≡ definitions_in old.store old.definitions ++ definitions_in old.store (kept_clauses ready.kept)
  old_definitions = ap (definitions_in old.store) is.definitions ∙ definitions_append old.store old.definitions (kept_clauses ready.kept)

  new_definitions : definitions_in new.store new.definitions ≡ definitions_in old.store old.definitions ++ kept_by (kept_predicate ready.kept) (present (entries_in old.store ready.entries.items))
  new_definitions =
      ap (λ st. definitions_in st new.definitions) is.store ∙ old_definitions
      ∙ ap (λ cs. definitions_in old.store old.definitions ++ cs) (added old.store (present (entries_in old.store ready.entries.items)) ready.kept is_ready.kept)

  new_defined : new.defined ≡ defined_of (state_of new)
  new_defined =
      let before = definitions_in old.store old.definitions in
      let more = definitions_in old.store (kept_clauses ready.kept) in
      let predicates : List Clause → List Pred = λ cs. map (λ (c : Clause). predicate_of c.head) cs in
      let a = is.defined ∙ ap (λ ps. ps ++ kept_preds ready.kept) sound.defined_is in
      let b = ap (λ ps. predicates before ++ ps) (sym (added_preds old.store (present (entries_in old.store ready.entries.items)) ready.kept is_ready.kept)) in
      let d = sym (predicates_append before more) in
      let e = ap predicates (sym (ap (λ st. definitions_in st new.definitions) is.store ∙ old_definitions)) in
      a ∙ b ∙ d ∙ e

  new_kept : AllKept new.store new.definitions
  new_kept =
      let P : List Kept → Type 0 = AllKept new.store in
      let Q : Trees → Type 0 = λ st. AllKept st (old.definitions ++ kept_clauses ready.kept) in
      let more = added_stored old.store (present (entries_in old.store ready.entries.items)) ready.kept is_ready.kept in
      subst P (sym is.definitions) (subst Q (sym is.store) (kept_append old.store old.definitions (kept_clauses ready.kept) sound.kept more))

  new_nodes : new.nodes ≡ old.nodes + nodes_of (present (entries_in old.store ready.entries.items))
  new_nodes = is.nodes ∙ ap (λ n. old.nodes + n) is_ready.nodes

  pub committed_state : state_of new ≡ ready_state old ready
  committed_state = let a = new_entries in let f = new_definitions in let b = new_nodes in let d = is.initials in let e = is.history in cc

  pub committed_sound : IsSound new
  committed_sound =
      let state = committed_state in
      let limits = within (ready_state old ready) is_ready.within in
      let count = live_after (state_of old).entries ready.dead (map Some (present (entries_in old.store ready.entries.items))) is_ready.dead in
      let fresh = ap (λ es. length (entries_where is_live es)) (sym (all_present old.store ready.entries.items is_ready.fresh)) ∙ new_live old.store ready.entries.items is_ready.fresh in
      let lives = ap live_count state in
      let nodes = ap (λ (s : State). s.nodes) state in
      let live_sound = sound.live_is in
      let live_new = is.live in
      let P : List (Option Row) → Type 0 = AllStored new.store in
      let Q : Trees → Type 0 = λ st. AllStored st (rows_killed old.entries ready.dead ++ ready.entries.items) in
      record {
        kept = new_kept;
        defined_is = new_defined;
        stored = subst P (sym is.entries) (subst Q (sym is.store) (stored_append old.store (rows_killed old.entries ready.dead) ready.entries.items (stored_killed old.store old.entries ready.dead sound.stored) is_ready.stored));
        live_is = omega arith;
        few_live = omega arith;
        few_nodes = omega arith;
        few_steps = omega (arith, ap (λ (xs : List Step). length xs) is.history, length-append old.history (ready.step ∷ []), is_ready.steps);
        few_ids = omega (
          arith,
          ap (λ (xs : List (Option Row)). length xs) is.entries,
          length-append (rows_killed old.entries ready.dead) ready.entries.items,
          length_killed old.entries ready.dead,
          present_length old.store ready.entries.items is_ready.fresh,
          as_many_nodes (present (entries_in old.store ready.entries.items)),
          sound.few_ids,
          new_nodes,
        );
      }
