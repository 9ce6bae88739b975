-- Accepted steps and runs keep the state, and its base grows by their definitions.
use Rattle.std.proofs.Common.{◌≡◌, ℕ, suc, ◌-◌, List, [], ◌∷◌, ◌++◌, map, length, refl, sym, ◌∙◌, ap, subst}
use Rattle.std.specs.Prelude.{Some, Result, Ok, Err, remove, All}
use Rattle.std.proofs.lemmas.List.{append_assoc, append-nil, map-append}
use Rattle.std.proofs.lemmas.List.Elements.{All-head, All-tail}
use Rattle.clp_model.specs.Clauses.{Clause}
use Rattle.clause_laws.specs.Laws.{AllStand}
use Rattle.clause_laws.proofs.Loading.{loaded_clause}
use Rattle.clause_store.specs.Source.{meaning_of}
use Rattle.fold_model.specs.Folded.{questions, folded_clause}
use Rattle.replace_model.specs.Rows.{with_row, without_row, projected, equated, equation_of}
use Rattle.map_model.specs.declared.shown.Shown.TheVariants.{Given}
use Rattle.map_model.specs.declared.shown.Shows.TheVariants.{Each}
use Rattle.map_model.specs.declared.step.Step.{Step}
use Rattle.map_model.specs.declared.step.Step.TheVariants.{Unfold, Fold, DeleteFalse, Merge, Add, Drop, Project, Equate}
use Rattle.map_model.specs.declared.refusal.Refusal.{Refusal}
use Rattle.map_model.specs.State.{State, base_clauses}
use Rattle.map_model.specs.Rewriting.{Rewriting, rewritten}
use Rattle.map_model.specs.Merging.{merged}
use Rattle.map_model.specs.Unfolding.{resolvents}
use Rattle.map_model.specs.Replacing.{row_of}
use Rattle.map_model.specs.Folding.{images}
use Rattle.map_model.specs.Defined.{definition_of, definitions_of}
use Rattle.map_model.specs.FormedSteps.{IsFormedStep}
use Rattle.map_model.specs.After.{after, go_on, run_from}
use Rattle.fill_laws.specs.Accepted.{in_its_place, IsRewriting, defines, unfolds, folds, deletes_false, merges, adds, drops, projects, equates}
use Rattle.fill_laws.proofs.Shown.{shown_entailed, false_unsatisfiable}
use Rattle.fill_laws.proofs.ShownAll.{all_shown_entailed}
use Rattle.fill_laws.proofs.Again.{loaded_is_canonical}
use Rattle.fill_laws.proofs.Accepted.{accepted_is}
use Rattle.rule_laws.proofs.RowRules.{false_rows}
use Rattle.state_laws.specs.KeptState.{IsKeptState}
use Rattle.state_laws.specs.Laws.{GrowsBy, AcceptedStepKeepsState, AcceptedStepKeepsBase, AcceptedRunKeepsState, AcceptedRunKeepsBase}
use Rattle.state_laws.proofs.Held.{loaded_is_held}
use Rattle.state_laws.proofs.Standing.{stand_both}
use Rattle.state_laws.proofs.Rewritten.{state_is, rewrites_of, base_after}
use Rattle.state_laws.proofs.Unfolded.{place_of, unfold_keeps_state}
use Rattle.state_laws.proofs.Merged.{positions, has_twice, merge_keeps_state}
use Rattle.state_laws.proofs.RowRules.{added_may, dropped_may, projected_may, equated_may}
use Rattle.state_laws.proofs.Replaced.{replaced_keeps_state}
use Rattle.state_laws.proofs.Defined.{define_grows, define_keeps_state}
use Rattle.state_laws.proofs.Folded.{is_marked_entry, is_accepted, fold_keeps_state}
use Rattle.state_laws.proofs.Deleted.{deleted_keeps_state}

-- where the steps are formed, the state is kept where it was, and the base grows by these definitions
abbrev Keeps : Type 0 → List Clause → State → State → Type 0
Keeps Formed written s t = (Formed → IsKeptState s → IsKeptState t) × (Formed → GrowsBy written s t)

rule_keeps : (s t : State) (step : Step) (r : Rewriting) → IsRewriting s step r → rewritten s r ≡ Ok t → Keeps (IsFormedStep step) (definition_of step) s t
rule_keeps s t _ _ (defines {source} {c} q p) h =
    let canonical = loaded_is_canonical (meaning_of source) c q in (
      (λ formed k. define_keeps_state s t c canonical (loaded_is_held (meaning_of source) c formed q).0 p h k),
      (λ formed. define_grows s t c canonical h (meaning_of source) (loaded_clause (meaning_of source) c formed.nums q)),
    )
rule_keeps s t _ _ (folds {id} {at} {by} {with} {keep} {show} {e} {n} {bs} {cs} q u d a m i x) h =
    let folded = folded_clause n e.clause (images n e.clause with bs) at keep in
    let w = rewrites_of s t id e (in_its_place id e folded) (Fold id at by with keep (Each (map Given cs))) q h in
    let shown = all_shown_entailed (questions n e.clause (images n e.clause with bs) keep) show cs x in
    let right = is_accepted n e.clause at with keep bs a m i shown in
    ((λ _ k. fold_keeps_state s t id at with keep bs by e n w (is_marked_entry id e u) d right k), (λ _. base_after s t id e (in_its_place id e folded) w))
rule_keeps s t _ _ (unfolds {id} {at} {e} q p) h =
    let drafts = resolvents s id e.clause at in
    let w = rewrites_of s t id e drafts (Unfold id at) q h in
    ((λ _ k. unfold_keeps_state s t id at e w (place_of (length e.clause.body) at p).1 k), (λ _. base_after s t id e drafts w))
rule_keeps s t _ _ (deletes_false {id} {show} {e} {c} q p) h =
    let w = rewrites_of s t id e [] (DeleteFalse id (Given c)) q h in
    ((λ _ k. deleted_keeps_state s t id e w (false_rows e.clause (false_unsatisfiable e.clause.rows show c p)) k), (λ _. base_after s t id e [] w))
rule_keeps s t _ _ (merges {id} {i} {j} {e} q p) h =
    let drafts = merged e id j ∷ [] in
    let w = rewrites_of s t id e drafts (Merge id i j) q h in
    ((λ _ k. merge_keeps_state s t id i j e w (has_twice e.clause i j (positions e.clause.body i j p)) k), (λ _. base_after s t id e drafts w))
rule_keeps s t _ _ (adds {id} {row} {show} {e} {c} q p x) h =
    let d = with_row e.clause row in
    let w = rewrites_of s t id e (in_its_place id e d) (Add id row (Given c)) q h in
    let shown = shown_entailed 1 e.clause.rows row show c x in
    ((λ rising k. replaced_keeps_state s t id e d w (λ held canonical. added_may e.clause held canonical row rising p shown) k), (λ _. base_after s t id e (in_its_place id e d) w))
rule_keeps s t _ _ (drops {id} {i} {show} {e} {c} q p x) h =
    let d = without_row e.clause (i - 1) in
    let w = rewrites_of s t id e (in_its_place id e d) (Drop id i (Given c)) q h in
    let shown = shown_entailed 1 (remove e.clause.rows (i - 1)) (row_of e.clause.rows i) show c x in
    ((λ _ k. replaced_keeps_state s t id e d w (λ held canonical. dropped_may e.clause held canonical i p shown) k), (λ _. base_after s t id e (in_its_place id e d) w))
rule_keeps s t _ _ (projects {id} {v} {e} q p) h =
    let d = projected e.clause v in
    let w = rewrites_of s t id e (in_its_place id e d) (Project id v) q h in
    ((λ _ k. replaced_keeps_state s t id e d w (λ held canonical. projected_may e.clause held canonical v p) k), (λ _. base_after s t id e (in_its_place id e d) w))
rule_keeps s t _ _ (equates {id} {v} {u} {show} {e} {c} q p x) h =
    let d = equated e.clause v u in
    let w = rewrites_of s t id e (in_its_place id e d) (Equate id v u (Given c)) q h in
    let shown = shown_entailed 1 e.clause.rows (equation_of v u) show c x in
    ((λ _ k. replaced_keeps_state s t id e d w (λ held canonical. equated_may e.clause held canonical v u p shown) k), (λ _. base_after s t id e (in_its_place id e d) w))

step_keeps : (s t : State) (step : Step) → after s step ≡ Ok t → Keeps (IsFormedStep step) (definition_of step) s t
step_keeps s t step h = let w = accepted_is s t step h in rule_keeps s t step w.0 w.1 w.2

-- ---- one after another
grows_on : (s u t : State) (first then : List Clause) → GrowsBy first s u → GrowsBy then u t → GrowsBy (first ++ then) s t
grows_on s u t first then g k = record {
  initials = k.initials ∙ g.initials;
  loaded = k.loaded ∙ g.loaded;
  added = g.added ++ k.added;
  definitions = k.definitions ∙ (ap (λ ds. ds ++ k.added) g.definitions ∙ append_assoc s.definitions g.added k.added);
  base = k.base ∙ (ap (λ ds. ds ++ k.added) g.base ∙ append_assoc (base_clauses s) g.added k.added);
  stand = subst (λ ds. AllStand ds (first ++ then)) (sym (map-append Some g.added k.added)) (stand_both (map Some g.added) (map Some k.added) first then g.stand k.stand);
}

nothing_grows : (s : State) → GrowsBy [] s s
nothing_grows s = record { initials = refl; loaded = refl; added = []; definitions = sym (append-nil s.definitions); base = sym (append-nil (base_clauses s)); stand = tt }

run_keeps : (n : ℕ) (s t : State) (steps : List Step) → run_from n s steps ≡ Ok t → Keeps (All IsFormedStep steps) (definitions_of steps) s t
run_keeps n s t [] h = subst (Keeps (All IsFormedStep []) [] s) (state_is h) ((λ _ k. k), (λ _. nothing_grows s))
run_keeps n s t (step ∷ steps) h = by (λ u g. run_keeps (suc n) u t steps g) (after s step) refl h
  where
    by : ((u : State) → run_from (suc n) u steps ≡ Ok t → Keeps (All IsFormedStep steps) (definitions_of steps) u t) → (o : Result State Refusal) → after s step ≡ o → go_on n (λ u. run_from (suc n) u steps) o ≡ Ok t
        → Keeps (All IsFormedStep (step ∷ steps)) (definitions_of (step ∷ steps)) s t
    by again (Err x) q g = absurd (cc)
    by again (Ok u) q g =
        let one = step_keeps s u step q in
        let more = again u g in (
          (λ all k. more.0 (All-tail IsFormedStep step steps all) (one.0 (All-head IsFormedStep step steps all) k)),
          (λ all. grows_on s u t (definition_of step) (definitions_of steps) (one.1 (All-head IsFormedStep step steps all)) (more.1 (All-tail IsFormedStep step steps all))),
        )

pub step_keeps_state : AcceptedStepKeepsState
step_keeps_state s t step h = (step_keeps s t step h).0

pub step_keeps_base : AcceptedStepKeepsBase
step_keeps_base s t step h = (step_keeps s t step h).1

pub run_keeps_state : AcceptedRunKeepsState
run_keeps_state s t steps h = (run_keeps 1 s t steps h).0

pub run_keeps_base : AcceptedRunKeepsBase
run_keeps_base s t steps h = (run_keeps 1 s t steps h).1
