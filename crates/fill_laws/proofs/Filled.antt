-- The steps that the history keeps make the same states again.
use Rattle.std.proofs.Common.{◌≡◌, ℕ, suc, ◌+◌, ◌-◌, List, [], ◌∷◌, ◌++◌, length, refl, sym, ◌∙◌, ap, subst}
use Rattle.std.specs.Prelude.{remove, Option, Some, None, Result, Ok, Err, if◌then◌else◌}
use Rattle.std.proofs.lemmas.List.{append-nil, append_assoc}
use Rattle.clp_model.specs.declared.limit.Limit.{Limit}
use Rattle.clp_model.specs.declared.limit.Limit.TheVariants.{Steps}
use Rattle.clp_model.specs.Clauses.{Row}
use Rattle.clause_store.specs.Source.{meaning_of}
use Rattle.fold_model.specs.Folded.{questions}
use Rattle.replace_model.specs.Rows.{equation_of}
use Rattle.farkas_check.specs.declared.cert.Cert.{Cert}
use Rattle.map_model.specs.declared.shown.Shown.{Shown}
use Rattle.map_model.specs.declared.shown.Shown.TheVariants.{Given}
use Rattle.map_model.specs.declared.step.Step.{Step}
use Rattle.map_model.specs.declared.refusal.Refusal.{Refusal}
use Rattle.map_model.specs.declared.refusal.Refusal.TheVariants.{TooLarge}
use Rattle.map_model.specs.State.{Entry, State}
use Rattle.map_model.specs.Rewriting.{Rewriting, new_entries, replaced, state_limit, unless_limit, replaced_by, rewritten}
use Rattle.map_model.specs.Showing.{unless_wrong, shown_by, shown_false_by}
use Rattle.map_model.specs.Replacing.{row_of}
use Rattle.map_model.specs.Folding.{images}
use Rattle.map_model.specs.After.{by_rule, after, go_on, run_from, run}
use Rattle.fill_laws.specs.Accepted.{IsRewriting, defines, unfolds, folds, deletes_false, merges, adds, drops, projects, equates}
use Rattle.fill_laws.specs.Laws.{FilledStepRunsToTheSame, FilledRunRunsToTheSame, FilledScriptRunsToTheSame}
use Rattle.fill_laws.proofs.Shown.{shown_accepted, false_accepted}
use Rattle.fill_laws.proofs.ShownAll.{all_shown_accepted}
use Rattle.fill_laws.proofs.Again.{loaded_again}
use Rattle.fill_laws.proofs.Accepted.{by_its_rule, accepted_is, rule_of}

-- ---- a step
shown_again : (place : ℕ) (rows : List Row) (target : Row) (show : Shown) (c : Cert) → shown_by place rows target show ≡ Ok c → shown_by place rows target (Given c) ≡ Ok c
shown_again place rows target show c h = ap (unless_wrong place c) (shown_accepted place rows target show c h)

false_again : (rows : List Row) (show : Shown) (c : Cert) → shown_false_by rows show ≡ Ok c → shown_false_by rows (Given c) ≡ Ok c
false_again rows show c h = ap (unless_wrong 1 c) (false_accepted rows show c h)

-- the step that a rewriting keeps is the same rewriting
kept_is : (s : State) (step : Step) (r : Rewriting) → IsRewriting s step r → IsRewriting s r.step r
kept_is s _ _ (defines {source} {c} q r) = defines (loaded_again (meaning_of source) c q) r
kept_is s _ _ (unfolds q r) = unfolds q r
kept_is s _ _ (folds {with = with} {keep = keep} {show = show} {e = e} {n = n} {bs = bs} {cs = cs} q u d a m i k) =
    folds q u d a m i (all_shown_accepted (questions n e.clause (images n e.clause with bs) keep) show cs k)
kept_is s _ _ (deletes_false {id} {show} {e} {c} q r) = deletes_false q (false_again e.clause.rows show c r)
kept_is s _ _ (merges q r) = merges q r
kept_is s _ _ (adds {id} {row} {show} {e} {c} q r k) = adds q r (shown_again 1 e.clause.rows row show c k)
kept_is s _ _ (drops {id} {i} {show} {e} {c} q r k) = drops q r (shown_again 1 (remove e.clause.rows (i - 1)) (row_of e.clause.rows i) show c k)
kept_is s _ _ (projects q r) = projects q r
kept_is s _ _ (equates {id} {v} {u} {show} {e} {c} q r k) = equates q r (shown_again 1 e.clause.rows (equation_of v u) show c k)

state_is : {E : Type 0} {s t : State} → ◌≡◌ {A = Result State E} (Ok s) (Ok t) → s ≡ t
state_is {E} {s} h = let out : Result State E → State = elim [ Ok u ↦ u | Err x ↦ s ] in ap out h

-- it is put last in the history
put_last : (s t : State) (r : Rewriting) → rewritten s r ≡ Ok t → t.steps ≡ s.steps ++ r.step ∷ []
put_last s t r h = by (new_entries (length s.steps + 1) r.made) h
  where
    within : (es : List Entry) (o : Option Limit) → unless_limit o (replaced s r.dead es r.defines r.step) ≡ Ok t → t.steps ≡ s.steps ++ r.step ∷ []
    within es None q = sym (ap (λ (u : State). u.steps) (state_is q))
    within es (Some limit) q = absurd (cc)

    by : (o : Result (List Entry) Refusal) → replaced_by s r o ≡ Ok t → t.steps ≡ s.steps ++ r.step ∷ []
    by (Err x) q = absurd (cc)
    by (Ok es) q = within es (state_limit (replaced s r.dead es r.defines r.step)) q

pub filled_step : FilledStepRunsToTheSame
filled_step s t step h =
    let w = accepted_is s t step h in
    let r = w.0 in
    let again : by_rule s r.step ≡ Ok t = rule_of s r.step r (kept_is s step r w.1) ∙ w.2 in
    (r.step, put_last s t r w.2, ap (λ b. if b then Err (TooLarge Steps) else by_rule s r.step) (by_its_rule s t step h).0 ∙ again)

-- ---- a run
abbrev Fills : ℕ → State → State → Type 0
Fills n s t = (filled : List Step) × (t.steps ≡ s.steps ++ filled) × (run_from n s filled ≡ Ok t)

filled_from : (n m : ℕ) (s t : State) (steps : List Step) → run_from n s steps ≡ Ok t → Fills m s t
filled_from n m s t [] h =
    let same : s ≡ t = state_is h in
    ([], sym (ap (λ (u : State). u.steps) same) ∙ sym (append-nil s.steps), ap Ok same)
filled_from n m s t (step ∷ steps) h = by (λ u g. filled_from (suc n) (suc m) u t steps g) (after s step) refl h
  where
    by : ((u : State) → run_from (suc n) u steps ≡ Ok t → Fills (suc m) u t) → (o : Result State Refusal) → after s step ≡ o → go_on n (λ u. run_from (suc n) u steps) o ≡ Ok t → Fills m s t
    by again (Err x) q g = absurd (cc)
    by again (Ok u) q g =
        let one = filled_step s u step q in
        let more = again u g in (
          one.0 ∷ more.0,
          more.1 ∙ (ap (λ xs. xs ++ more.0) one.1 ∙ append_assoc s.steps (one.0 ∷ []) more.0),
          ap (go_on m (λ v. run_from (suc m) v more.0)) one.2 ∙ more.2,
        )

pub filled_run : FilledRunRunsToTheSame
filled_run s t steps h = filled_from 1 1 s t steps h

pub filled_script : FilledScriptRunsToTheSame
filled_script s t steps none h =
    let w = filled_run s t steps h in
    let all : t.steps ≡ w.0 = w.1 ∙ ap (λ xs. xs ++ w.0) none in
    subst (λ xs. run s xs ≡ Ok t) (sym all) w.2
