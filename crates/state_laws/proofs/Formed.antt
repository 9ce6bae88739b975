-- The steps that an accepted run puts into the history are formed.
use Rattle.std.proofs.Common.{◌≡◌, ℕ, suc, List, [], ◌∷◌, refl, sym, ap, subst}
use Rattle.std.specs.Prelude.{Result, Ok, Err, All}
use Rattle.std.proofs.lemmas.List.Elements.{All-head, All-tail, All-push}
use Rattle.clause_store.specs.Source.{meaning_of}
use Rattle.map_model.specs.declared.step.Step.{Step}
use Rattle.map_model.specs.declared.refusal.Refusal.{Refusal}
use Rattle.map_model.specs.State.{State}
use Rattle.map_model.specs.Rewriting.{Rewriting}
use Rattle.map_model.specs.FormedSteps.{IsFormedStep}
use Rattle.map_model.specs.After.{after, go_on, run_from}
use Rattle.fill_laws.specs.Accepted.{IsRewriting, defines, unfolds, folds, deletes_false, merges, adds, drops, projects, equates}
use Rattle.fill_laws.proofs.Accepted.{accepted_is}
use Rattle.state_laws.specs.Laws.{AcceptedRunKeepsFormedSteps}
use Rattle.state_laws.proofs.Numbered.{source_is_formed}
use Rattle.state_laws.proofs.Held.{loaded_is_held}
use Rattle.state_laws.proofs.Rewritten.{state_is, rewritten_is}

-- the step that a rewriting keeps
kept_formed : (s : State) (step : Step) (r : Rewriting) → IsRewriting s step r → IsFormedStep step → IsFormedStep r.step
kept_formed s _ _ (defines {source} {c} q p) h = source_is_formed c (loaded_is_held (meaning_of source) c h q).0
kept_formed s _ _ (unfolds q p) h = h
kept_formed s _ _ (folds q u d a m i x) h = tt
kept_formed s _ _ (deletes_false q p) h = h
kept_formed s _ _ (merges q p) h = h
kept_formed s _ _ (adds q p x) h = h
kept_formed s _ _ (drops q p x) h = h
kept_formed s _ _ (projects q p) h = h
kept_formed s _ _ (equates q p x) h = h

pub step_formed : (s t : State) (step : Step) → after s step ≡ Ok t → IsFormedStep step → All IsFormedStep s.steps → All IsFormedStep t.steps
step_formed s t step h formed all =
    let w = accepted_is s t step h in
    let r = w.0 in
    let is = rewritten_is s t r w.2 in
    subst (All IsFormedStep) (sym (ap (λ (u : State). u.steps) is.2)) (All-push IsFormedStep s.steps r.step all (kept_formed s step r w.1 formed))

run_formed : (n : ℕ) (s t : State) (steps : List Step) → run_from n s steps ≡ Ok t → All IsFormedStep steps → All IsFormedStep s.steps → All IsFormedStep t.steps
run_formed n s t [] h formed all = subst (λ (u : State). All IsFormedStep u.steps) (state_is h) all
run_formed n s t (step ∷ steps) h formed all = by (λ u g k. run_formed (suc n) u t steps g (All-tail IsFormedStep step steps formed) k) (after s step) refl h
  where
    by : ((u : State) → run_from (suc n) u steps ≡ Ok t → All IsFormedStep u.steps → All IsFormedStep t.steps) → (o : Result State Refusal) → after s step ≡ o → go_on n (λ u. run_from (suc n) u steps) o ≡ Ok t → All IsFormedStep t.steps
    by again (Err x) q g = absurd (cc)
    by again (Ok u) q g = again u g (step_formed s u step q (All-head IsFormedStep step steps formed) all)

pub run_keeps_formed : AcceptedRunKeepsFormedSteps
run_keeps_formed s t steps h formed all = run_formed 1 s t steps h formed all
