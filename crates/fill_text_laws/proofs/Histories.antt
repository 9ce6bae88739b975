-- The steps of a history can be written.
use Rattle.std.proofs.Common.{◌≡◌, ℕ, suc, ◌+◌, ◌-◌, ◌≤◌, List, [], ◌∷◌, ◌++◌, length, arith, refl, sym, ap, subst, length-append}
use Rattle.std.specs.Prelude.{All, remove, Option, Some, None, Result, Ok, Err}
use Rattle.std.specs.Str.{is_utf8}
use Rattle.std.proofs.lemmas.Bool.{leb-false}
use Rattle.std.proofs.lemmas.List.Elements.{All-head, All-tail, All-push, All-map}
use Rattle.clp_model.specs.declared.limit.Limit.{Limit}
use Rattle.clause_store.specs.Source.{meaning_of}
use Rattle.fold_model.specs.Folded.{questions}
use Rattle.replace_model.specs.Rows.{equation_of}
use Rattle.map_model.specs.declared.shown.Shown.TheVariants.{Given}
use Rattle.map_model.specs.declared.step.Step.{Step}
use Rattle.map_model.specs.declared.refusal.Refusal.{Refusal}
use Rattle.map_model.specs.State.{Entry, State}
use Rattle.map_model.specs.Rewriting.{Rewriting, new_entries, replaced, state_limit, unless_limit, replaced_by, rewritten}
use Rattle.map_model.specs.Replacing.{row_of}
use Rattle.map_model.specs.Folding.{images}
use Rattle.map_model.specs.After.{after, go_on, run_from}
use Rattle.fill_laws.specs.Accepted.{IsRewriting, defines, unfolds, folds, deletes_false, merges, adds, drops, projects, equates}
use Rattle.fill_laws.proofs.Accepted.{by_its_rule, accepted_is}
use Rattle.standing_model.specs.Names.{is_short, is_ordinary}
use Rattle.name_laws.proofs.Loading.{loaded_keeps}
use Rattle.state_laws.proofs.Held.{loaded_is_held}
use Rattle.read_name_laws.proofs.Programs.{over as texts_over}
use Rattle.text_laws.specs.Laws.{IsPrintable}
use Rattle.script_grammar.specs.ScriptText.{IsShown, IsInRange, IsScript}
use Rattle.script_laws.specs.Laws.{IsPrintableStep}
use Rattle.found_laws.proofs.Shown.{shown_row, shown_falsehood}
use Rattle.found_laws.proofs.ShownAll.{shown_rows}
use Rattle.fill_text_laws.specs.Laws.{FilledStepIsInRange, FilledStepsAreInRange, FilledStepKeepsScript, FilledStepsAreAScript, IsReadStep, FilledStepIsPrintable, FilledStepsArePrintable}

-- ---- a step
-- the numbers of the step that a rewriting keeps are in range
kept_in_range : (s : State) (step : Step) (r : Rewriting) → IsRewriting s step r → IsInRange step → IsInRange r.step
kept_in_range s _ _ (defines q r) h = tt
kept_in_range s _ _ (unfolds q r) h = h
kept_in_range s _ _ (folds {with = with} {keep = keep} {show = show} {e = e} {n = n} {bs = bs} {cs = cs} q u d a m b k) h =
    (h.0, h.1, h.2, h.3, h.4, All-map IsShown Given cs (shown_rows (questions n e.clause (images n e.clause with bs) keep) show cs h.5 k))
kept_in_range s _ _ (deletes_false {id} {show} {e} {c} q r) h = (h.0, shown_falsehood e.clause.rows show c h.1 r)
kept_in_range s _ _ (merges q r) h = h
kept_in_range s _ _ (adds {id} {row} {show} {e} {c} q r k) h = (h.0, h.1, shown_row 1 e.clause.rows row show c h.2 k)
kept_in_range s _ _ (drops {id} {i} {show} {e} {c} q r k) h = (h.0, h.1, shown_row 1 (remove e.clause.rows (i - 1)) (row_of e.clause.rows i) show c h.2 k)
kept_in_range s _ _ (projects q r) h = h
kept_in_range s _ _ (equates {id} {v} {u} {show} {e} {c} q r k) h = (h.0, h.1, h.2, shown_row 1 e.clause.rows (equation_of v u) show c h.3 k)

-- it can be printed where the given one was read
kept_printable : (s : State) (step : Step) (r : Rewriting) → IsRewriting s step r → IsReadStep step → IsPrintableStep r.step
kept_printable s _ _ (defines {source} {c} q r) h =
    let held = loaded_is_held (meaning_of source) c h.formed q in
    let printable : IsPrintable c = record {
      canonical = held.1;
      over = loaded_keeps is_short is_ordinary (meaning_of source) c h.over.0 h.over.1 q;
      texts = loaded_keeps is_utf8 is_ordinary (meaning_of source) c h.named.equations (texts_over is_short is_ordinary source h.named h.over.1) q;
      nums = held.0.nums;
    } in
    (c, printable, refl)
kept_printable s _ _ (unfolds q r) h = tt
kept_printable s _ _ (folds q u d a m b k) h = h.named
kept_printable s _ _ (deletes_false q r) h = tt
kept_printable s _ _ (merges q r) h = tt
kept_printable s _ _ (adds q r k) h = tt
kept_printable s _ _ (drops q r k) h = tt
kept_printable s _ _ (projects q r) h = tt
kept_printable s _ _ (equates q r k) h = tt

state_is : {E : Type 0} {s t : State} → ◌≡◌ {A = Result State E} (Ok s) (Ok t) → s ≡ t
state_is {E} {s} h = let out : Result State E → State = elim [ Ok u ↦ u | Err x ↦ s ] in ap out h

-- it is put last in the history
put_last : (s t : State) (r : Rewriting) → rewritten s r ≡ Ok t → t.steps ≡ s.steps ++ r.step ∷ []
put_last s t r h = by (new_entries (length s.steps + 1) r.made) h
  where
    within : (es : List Entry) (o : Option Limit) → unless_limit o (replaced s r.dead es r.defines r.step) ≡ Ok t → t.steps ≡ s.steps ++ r.step ∷ []
    within es None q = sym (ap (λ (u : State). u.steps) (state_is q))
    within es (Some limit) q = absurd (cc)

    by : (o : Result (List Entry) Refusal) → replaced_by s r o ≡ Ok t → t.steps ≡ s.steps ++ r.step ∷ []
    by (Err x) q = absurd (cc)
    by (Ok es) q = within es (state_limit (replaced s r.dead es r.defines r.step)) q

pub step_in_range : FilledStepIsInRange
step_in_range s t step h w all =
    let a = accepted_is s t step h in
    subst (All IsInRange) (sym (put_last s t a.0 a.2)) (All-push IsInRange s.steps a.0.step all (kept_in_range s step a.0 a.1 w))

pub step_printable : FilledStepIsPrintable
step_printable s t step h read all =
    let a = accepted_is s t step h in
    subst (All IsPrintableStep) (sym (put_last s t a.0 a.2)) (All-push IsPrintableStep s.steps a.0.step all (kept_printable s step a.0 a.1 read))

-- there may be one step more
short_after : (s t : State) (step : Step) → after s step ≡ Ok t → length t.steps ≤ 100000
short_after s t step h =
    let a = accepted_is s t step h in
    let fewer = leb-false 100000 (length s.steps) (by_its_rule s t step h).0 in
    let longer = ap (λ (xs : List Step). length xs) (put_last s t a.0 a.2) in
    let one = length-append s.steps (a.0.step ∷ []) in
    omega (arith, fewer, longer, one)

pub step_keeps_script : FilledStepKeepsScript
step_keeps_script s t step h w script = record { few = short_after s t step h; in_range = step_in_range s t step h w script.in_range }

-- ---- a run
-- what each step keeps of which Q holds
run_keeps : (P : List Step → Type 0) (Q : Step → Type 0) → ((s t : State) (step : Step) → after s step ≡ Ok t → Q step → P s.steps → P t.steps)
    → (n : ℕ) (s t : State) (steps : List Step) → run_from n s steps ≡ Ok t → All Q steps → P s.steps → P t.steps
run_keeps P Q kept n s t [] h w p = subst P (ap (λ (u : State). u.steps) (state_is h)) p
run_keeps P Q kept n s t (step ∷ steps) h w p = by (λ u g q. run_keeps P Q kept (suc n) u t steps g (All-tail Q step steps w) q) (after s step) refl h
  where
    by : ((u : State) → run_from (suc n) u steps ≡ Ok t → P u.steps → P t.steps) → (o : Result State Refusal) → after s step ≡ o
        → go_on n (λ u. run_from (suc n) u steps) o ≡ Ok t → P t.steps
    by again (Err x) e g = absurd (cc)
    by again (Ok u) e g = again u g (kept s u step e (All-head Q step steps w) p)

pub run_in_range : FilledStepsAreInRange
run_in_range s t steps h w all = run_keeps (All IsInRange) IsInRange step_in_range 1 s t steps h w all

pub run_keeps_script : FilledStepsAreAScript
run_keeps_script s t steps h w script = run_keeps IsScript IsInRange step_keeps_script 1 s t steps h w script

pub run_printable : FilledStepsArePrintable
run_printable s t steps h read all = run_keeps (All IsPrintableStep) IsReadStep step_printable 1 s t steps h read all
