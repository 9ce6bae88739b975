-- What an accepted step is: a rewriting within the limits.
use Rattle.std.proofs.Common.{◌≡◌, ℕ, suc, List, [], ◌∷◌, refl, sym, ◌∙◌, ap, subst, ◌+◌}
use Rattle.std.specs.Prelude.{Option, Some, None, Result, Ok, Err, length}
use Rattle.clp_model.specs.declared.limit.Limit.{Limit}
use Rattle.clp_model.specs.declared.predicate.Pred.{Pred}
use Rattle.map_model.specs.declared.step.Step.{Step}
use Rattle.map_model.specs.declared.refusal.Refusal.{Refusal}
use Rattle.map_model.specs.declared.refusal.Refusal.TheVariants.{TooLarge}
use Rattle.map_model.specs.State.{Entry, State}
use Rattle.map_model.specs.Rewriting.{Rewriting, new_entries, replaced, state_limit, unless_limit, replaced_by, rewritten}
use Rattle.map_model.specs.After.{after, go_on, run_from}
use Rattle.fill_laws.proofs.Accepted.{accepted_is}

pub record Rewrites (s t : State) : Type 0 where
  pub dead : List ℕ
  pub entries : List Entry
  pub defines : Option Pred
  pub step : Step
  pub is : t ≡ replaced s dead entries defines step
  pub within : state_limit t ≡ None

ok_same : {E : Type 0} (s t : State) → ◌≡◌ {A = Result State E} (Ok s) (Ok t) → s ≡ t
ok_same s t e = cc

err_ok : {E : Type 0} (f : E) (t : State) → ◌≡◌ {A = Result State E} (Err f) (Ok t) → ⊥
err_ok f t e = cc

module _ (s t : State) where
  by_limit : (r : Rewriting) (entries : List Entry) (o : Option Limit) → state_limit (replaced s r.dead entries r.defines r.step) ≡ o
      → unless_limit o (replaced s r.dead entries r.defines r.step) ≡ Ok t → Rewrites s t
  by_limit r entries (Some limit) e h = absurd (err_ok (TooLarge limit) t h)
  by_limit r entries None e h =
      let same = ok_same (replaced s r.dead entries r.defines r.step) t h in
      record { dead = r.dead; entries = entries; defines = r.defines; step = r.step; is = sym same; within = ap state_limit (sym same) ∙ e }

  by_entries : (r : Rewriting) (es : Result (List Entry) Refusal) → replaced_by s r es ≡ Ok t → Rewrites s t
  by_entries r (Err refusal) h = absurd (err_ok refusal t h)
  by_entries r (Ok entries) h = by_limit r entries (state_limit (replaced s r.dead entries r.defines r.step)) refl h

  rewritten_rewrites : (r : Rewriting) → rewritten s r ≡ Ok t → Rewrites s t
  rewritten_rewrites r h = by_entries r (new_entries (length s.steps + 1) r.made) h

  -- an accepted step is a rewriting
  pub after_rewrites : (step : Step) → after s step ≡ Ok t → Rewrites s t
  after_rewrites step h = let w = accepted_is s t step h in rewritten_rewrites w.0 w.2

-- ---- runs

-- a property that every rewriting within the limits keeps
abbrev pub IsKept : (State → Type 0) → Type 0
IsKept P = (s t : State) → Rewrites s t → P s → P t

refused_ok : (refused : ℕ × Refusal) (t : State) → ◌≡◌ {A = Result State (ℕ × Refusal)} (Err refused) (Ok t) → ⊥
refused_ok refused t e = cc

onward : (P : State → Type 0) → IsKept P → (n : ℕ) (s t : State) (step : Step) (steps : List Step)
    → ((u : State) → run_from (suc n) u steps ≡ Ok t → P u → P t)
    → (r : Result State Refusal) → after s step ≡ r → go_on n (λ u. run_from (suc n) u steps) r ≡ Ok t → P s → P t
onward P kept n s t step steps again (Ok u) e g p = again u g (kept s u (after_rewrites s u step e) p)
onward P kept n s t step steps again (Err x) e g p = absurd (refused_ok (n, x) t g)

pub run_keeps : (P : State → Type 0) → IsKept P → (n : ℕ) (s t : State) (steps : List Step) → run_from n s steps ≡ Ok t → P s → P t
run_keeps P kept n s t [] h p = subst P (ok_same s t h) p
run_keeps P kept n s t (step ∷ steps) h p =
    onward P kept n s t step steps (λ u g q. run_keeps P kept (suc n) u t steps g q) (after s step) refl h p
