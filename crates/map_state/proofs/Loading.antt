-- The state of a loaded program.
use Rattle.std.proofs.Common.{◌≡◌, suc, ◌≤◌, List, [], ◌∷◌, length, refl, ap, ◌∙◌, sym, subst, arith, map}
use Rattle.std.specs.Prelude.{Option, Some, None, option_map}
use Rattle.clp_model.specs.declared.predicate.Pred.{Pred}
use Rattle.clp_model.specs.Clauses.{Clause}
use Rattle.clp_model.specs.Predicates.{predicate_of}
use Rattle.clause_store.specs.declared.clause.Clause.{Clause as Kept}
use Rattle.clause_store.specs.Stored.{clause_in}
use Rattle.map_model.specs.declared.step.Step.{Step}
use Rattle.map_state.specs.declared.entry.Entry.{Entry as Row}
use Rattle.clause_model.specs.Load.{sizes_of}
use Rattle.map_model.specs.State.{is_live, entries_where, loaded_entry, start_state}
use Rattle.clause_loader.specs.Loaded.{clauses_in, AreStored}
use Rattle.map_state.specs.Seen.{Trees, Seen, IsSound, AllStored, AllKept, state_of, entries_in, definitions_in}
use Rattle.map_state.specs.Rows.{loaded_row, count_of}

in_loaded : (store : Trees) (cs : List (Option Kept)) → entries_in store (map loaded_row cs) ≡ map (option_map loaded_entry) (clauses_in store cs)
in_loaded store [] = refl
in_loaded store (None ∷ cs) = ap (λ es. None ∷ es) (in_loaded store cs)
in_loaded store (Some c ∷ cs) = ap (λ es. Some (loaded_entry (clause_in store c)) ∷ es) (in_loaded store cs)

stored_loaded : (store : Trees) (cs : List (Option Kept)) → AreStored store cs → AllStored store (map loaded_row cs)
stored_loaded store [] s = tt
stored_loaded store (None ∷ cs) s = stored_loaded store cs s.1
stored_loaded store (Some c ∷ cs) s = (s.0, stored_loaded store cs s.1)

live_loaded : (store : Trees) (cs : List (Option Kept)) → length (entries_where is_live (entries_in store (map loaded_row cs))) ≡ count_of cs
live_loaded store [] = refl
live_loaded store (None ∷ cs) = live_loaded store cs
live_loaded store (Some c ∷ cs) = ap suc (live_loaded store cs)

length_loaded : (cs : List (Option Kept)) → length (map loaded_row cs) ≡ length cs
length_loaded [] = refl
length_loaded (c ∷ cs) = ap suc (length_loaded cs)

-- the parts of a state that has just begun
pub record IsBegun (store : Trees) (cs : List (Option Kept)) (preds : List Pred) (seen : Seen) : Type 0 where
  pub store_is : seen.store ≡ store
  pub entries : seen.entries ≡ map loaded_row cs
  pub definitions : seen.definitions ≡ []
  pub defined : seen.defined ≡ []
  pub initials : seen.initials ≡ preds
  pub history : seen.history ≡ []
  pub live : seen.live ≡ count_of cs
  pub nodes : seen.nodes ≡ sizes_of (clauses_in store cs)

module _ (store : Trees) (cs : List (Option Kept)) (preds : List Pred) (seen : Seen) (is : IsBegun store cs preds seen) where
  begun_entries : entries_in seen.store seen.entries ≡ map (option_map loaded_entry) (clauses_in store cs)
  begun_entries = ap (λ st. entries_in st seen.entries) is.store_is ∙ ap (entries_in store) is.entries ∙ in_loaded store cs

  pub begun_state : state_of seen ≡ start_state (clauses_in store cs) preds
  begun_state = let a = begun_entries in let f = ap (definitions_in seen.store) is.definitions in let b = is.initials in let d = is.history in let e = is.nodes in cc

  pub begun_sound : AreStored store cs → length cs ≤ 4096 → count_of cs ≤ 4096 → sizes_of (clauses_in store cs) ≤ 8388608 → IsSound seen
  begun_sound stored few count nodes =
      let P : List (Option Row) → Type 0 = AllStored seen.store in
      let Q : Trees → Type 0 = λ st. AllStored st (map loaded_row cs) in
      let lives = ap (λ es. length (entries_where is_live es)) (ap (λ st. entries_in st seen.entries) is.store_is ∙ ap (entries_in store) is.entries) ∙ live_loaded store cs in
      let long = ap (λ (xs : List (Option Row)). length xs) is.entries ∙ length_loaded cs in
      let R : List Kept → Type 0 = AllKept seen.store in
      record {
        kept = subst R (sym is.definitions) tt;
        defined_is = is.defined ∙ sym (ap (λ cs. map (λ (c : Clause). predicate_of c.head) (definitions_in seen.store cs)) is.definitions);
        stored = subst P (sym is.entries) (subst Q (sym is.store_is) (stored_loaded store cs stored));
        live_is = is.live ∙ sym lives;
        few_live = omega (arith, is.live);
        few_nodes = omega (arith, is.nodes);
        few_steps = omega (arith, ap (λ (xs : List Step). length xs) is.history);
        few_ids = omega arith;
      }
