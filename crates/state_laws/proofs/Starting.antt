-- The start state is kept, and what is provable from it on.
use Rattle.std.proofs.Common.{◌≡◌, ◌↔◌, List, [], ◌∷◌, ◌++◌, map, refl, sym, ◌∙◌, ap, subst, true}
use Rattle.std.specs.Prelude.{Option, Some, None, option_map, All, Contains}
use Rattle.std.proofs.lemmas.List.{append-nil}
use Rattle.std.proofs.lemmas.List.Elements.{All-nil}
use Rattle.clp_model.specs.declared.predicate.Pred.{Pred}
use Rattle.clp_model.specs.Values.{GroundAtom}
use Rattle.clp_model.specs.Clauses.{Clause}
use Rattle.clp_model.specs.Proof.{Provable}
use Rattle.clp_model.proofs.Membership.{to_among}
use Rattle.clp_rank.specs.Ranked.{Ranked}
use Rattle.clp_rank.specs.Entries.{Entry as Marked, setting}
use Rattle.clp_rank.proofs.Starting.{start_ranked}
use Rattle.clause_model.specs.Canonical.{IsCanonical}
use Rattle.clause_laws.specs.Laws.{AllStand}
use Rattle.clause_laws.proofs.Rows.{all_each}
use Rattle.rule_laws.specs.Steps.{IsHeld}
use Rattle.rule_laws.specs.Dropping.{IsKnown}
use Rattle.map_model.specs.declared.step.Step.{Step}
use Rattle.map_model.specs.State.{Entry, State, clauses_of, entries_where, is_live, is_loaded, loaded_entry, live_clauses, base_clauses, start_state}
use Rattle.map_model.specs.Defined.{definitions_of}
use Rattle.map_model.specs.WellFormed.{clauses_at}
use Rattle.state_laws.specs.KeptState.{marked, live_of, base_of, defined_by, loaded_clauses, IsKeptDefinition, IsKeptState}
use Rattle.state_laws.specs.Laws.{GrowsBy, StartStateIsKept, StartStateHasItsClauses, RunKeepsProvability}
use Rattle.state_laws.proofs.Variables.{among_map}
use Rattle.state_laws.proofs.Standing.{places_of, places_append, stand_both, itself_stands, standing_proves}
use Rattle.state_laws.proofs.Running.{run_keeps_state, run_keeps_base}
use Rattle.state_laws.proofs.Provable.{live_and_base}

live_at_start : (cs : List (Option Clause)) → entries_where is_live (map (option_map loaded_entry) cs) ≡ map loaded_entry (clauses_at cs)
live_at_start [] = refl
live_at_start (None ∷ cs) = live_at_start cs
live_at_start (Some c ∷ cs) = ap (λ es. loaded_entry c ∷ es) (live_at_start cs)

loaded_at_start : (cs : List (Option Clause)) → entries_where is_loaded (map (option_map loaded_entry) cs) ≡ map loaded_entry (clauses_at cs)
loaded_at_start [] = refl
loaded_at_start (None ∷ cs) = loaded_at_start cs
loaded_at_start (Some c ∷ cs) = ap (λ es. loaded_entry c ∷ es) (loaded_at_start cs)

clauses_loaded : (cs : List Clause) → clauses_of (map loaded_entry cs) ≡ cs
clauses_loaded [] = refl
clauses_loaded (c ∷ cs) = ap (λ ds. c ∷ ds) (clauses_loaded cs)

pub start_has : StartStateHasItsClauses
start_has cs ps = (
  ap clauses_of (live_at_start cs) ∙ clauses_loaded (clauses_at cs),
  ap (λ es. clauses_of es ++ []) (loaded_at_start cs) ∙ (append-nil (clauses_of (map loaded_entry (clauses_at cs))) ∙ clauses_loaded (clauses_at cs)),
)

module _ (cs : List (Option Clause)) (ps : List Pred) where
  abbrev s : State
  s = start_state cs ps

  abbrev all : List Marked
  all = map marked (map loaded_entry (clauses_at cs))

  live_is : live_of s ≡ all
  live_is = ap (map marked) (live_at_start cs)

  base_is : base_of s ≡ all
  base_is = ap (λ es. map marked es ++ []) (loaded_at_start cs) ∙ append-nil all

  all_marked : (x : Marked) → Contains all x → x.mark ≡ true
  all_marked x l =
      let k = among_map marked (map loaded_entry (clauses_at cs)) x (to_among all x l) in
      let j = among_map loaded_entry (clauses_at cs) k.0 k.1 in
      ap (λ (y : Marked). y.mark) k.2 ∙ ap (λ (e : Entry). e.mark) j.2

  ranked : Ranked (setting (defined_by s)) (Contains (base_of s)) (Contains (live_of s))
  ranked =
      let one : Ranked (setting (defined_by s)) (Contains all) (Contains all) = start_ranked (setting (defined_by s)) (Contains all) all_marked (λ a. refl) in
      subst (λ (b : List Marked). Ranked (setting (defined_by s)) (Contains b) (Contains (live_of s))) (sym base_is)
      (subst (λ (l : List Marked). Ranked (setting (defined_by s)) (Contains all) (Contains l)) (sym live_is) one)

  pub loaded_are : loaded_clauses s ≡ clauses_at cs
  loaded_are = ap clauses_of (loaded_at_start cs) ∙ clauses_loaded (clauses_at cs)

  kept_at_start : All IsHeld (clauses_at cs) → All IsCanonical (clauses_at cs) → All (IsKnown ps) (clauses_at cs) → IsKeptState s
  kept_at_start held canonical known = record {
    ranked = ranked;
    held = subst (All IsHeld) (sym (start_has cs ps).0) held;
    canonical = subst (All IsCanonical) (sym (start_has cs ps).0) canonical;
    known = subst (λ qs. All (IsKnown qs) (live_clauses s)) (sym (append-nil ps)) (subst (All (IsKnown ps)) (sym (start_has cs ps).0) known);
    loaded_held = subst (All IsHeld) (sym loaded_are) held;
    loaded_known = subst (All (IsKnown ps)) (sym loaded_are) known;
    definitions = All-nil (IsKeptDefinition ps);
    one_each = λ m n i j q. elim (to_among [] m i) [ ];
  }

pub start_is_kept : StartStateIsKept
start_is_kept = kept_at_start

-- ---- what is provable
-- what the live clauses prove after a run, where each clause of the start stands for one of these
pub live_proves : (cs : List (Option Clause)) (ps : List Pred) (steps : List Step) (t : State) → IsKeptState t → GrowsBy (definitions_of steps) (start_state cs ps) t
    → (ds : List (Option Clause)) (source : List Clause) → clauses_at ds ≡ clauses_at cs → AllStand ds source → (a : GroundAtom) → Provable (live_clauses t) a ↔ Provable (source ++ definitions_of steps) a
live_proves cs ps steps t k g ds source same stand a =
    let whole : base_clauses t ≡ clauses_at (ds ++ map Some g.added) =
    g.base
    ∙ (ap (λ xs. xs ++ g.added) ((start_has cs ps).1 ∙ sym same)
    ∙ (ap (λ xs. clauses_at ds ++ xs) (sym (places_of g.added)) ∙ sym (places_append ds (map Some g.added)))) in
    let live = live_and_base t k a in
    let base = standing_proves (ds ++ map Some g.added) (source ++ definitions_of steps) (stand_both ds (map Some g.added) source (definitions_of steps) stand g.stand) a in (
      λ q. base.0 (subst (λ xs. Provable xs a) whole (live.0 q)),
      λ q. live.1 (subst (λ xs. Provable xs a) (sym whole) (base.1 q)),
    )

pub run_keeps : RunKeepsProvability
run_keeps cs ps steps t held canonical known h formed a =
    let s = start_state cs ps in
    let k = run_keeps_state s t steps h formed (start_is_kept cs ps held canonical known) in
    live_proves cs ps steps t k (run_keeps_base s t steps h formed) (map Some (clauses_at cs)) (clauses_at cs) (places_of (clauses_at cs)) (itself_stands (clauses_at cs) (all_each IsCanonical (clauses_at cs) canonical)) a
