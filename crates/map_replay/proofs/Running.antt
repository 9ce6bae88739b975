-- Steps that are carried out one after another.
use Rattle.std.proofs.Common.{◌≡◌, ℕ, zero, suc, ◌+◌, ◌<◌, ◌≤◌, List, [], ◌∷◌, ◌++◌, length, get_or, take, drop, refl, sym, ◌∙◌, ap, arith}
use Rattle.std.specs.Prelude.{Result, Ok, Err}
use Rattle.map_model.specs.declared.step.Step.{Step}
use Rattle.map_model.specs.declared.refusal.Refusal.{Refusal}
use Rattle.map_model.specs.State.{State}
use Rattle.map_model.specs.After.{after, run, run_from, go_on}

-- what is left of a run: the steps from this one on
pub run_next : (n : ℕ) (s t : State) (steps : List Step) (i : ℕ) (step : Step) → i < length steps → step ≡ get_or steps i step → after s step ≡ Ok t
    → run_from n s (drop i steps) ≡ run_from (suc n) t (drop (i + 1) steps)
run_next n s t [] i step h e a = absurd (omega arith)
run_next n s t (x ∷ steps) zero step h e a =
    ap (λ y. go_on n (λ u. run_from (suc n) u steps) (after s y)) (sym e) ∙ ap (go_on n (λ u. run_from (suc n) u steps)) a
run_next n s t (x ∷ steps) (suc i) step h e a =
    let k : suc i + 1 ≡ suc (i + 1) = omega arith in rw k (run_next n s t steps i step (omega arith) e a)

pub run_refused : (n : ℕ) (s : State) (r : Refusal) (steps : List Step) (i : ℕ) (step : Step) → i < length steps → step ≡ get_or steps i step → after s step ≡ Err r
    → run_from n s (drop i steps) ≡ Err (n, r)
run_refused n s r [] i step h e a = absurd (omega arith)
run_refused n s r (x ∷ steps) zero step h e a =
    ap (λ y. go_on n (λ u. run_from (suc n) u steps) (after s y)) (sym e) ∙ ap (go_on n (λ u. run_from (suc n) u steps)) a
run_refused n s r (x ∷ steps) (suc i) step h e a = run_refused n s r steps i step (omega arith) e a

pub run_end : (n : ℕ) (s : State) (steps : List Step) (i : ℕ) → length steps ≤ i → run_from n s (drop i steps) ≡ Ok s
run_end n s [] zero h = refl
run_end n s [] (suc i) h = refl
run_end n s (x ∷ steps) zero h = absurd (omega arith)
run_end n s (x ∷ steps) (suc i) h = run_end n s steps i (omega arith)

state_ok : {E : Type 0} (s t : State) → ◌≡◌ {A = Result State E} (Ok s) (Ok t) → s ≡ t
state_ok s t e = cc

never : (n : ℕ) (r : Refusal) (t : State) → ◌≡◌ {A = Result State (ℕ × Refusal)} (Err (n, r)) (Ok t) → ⊥
never n r t e = cc

-- one step more than a run that is accepted
one_more : (n : ℕ) (s t u : State) (x : Step) (xs : List Step) (step : Step) → ((v : State) → run_from (suc n) v xs ≡ Ok t → run_from (suc n) v (xs ++ step ∷ []) ≡ Ok u)
    → (r : Result State Refusal) → after s x ≡ r → go_on n (λ v. run_from (suc n) v xs) r ≡ Ok t → go_on n (λ v. run_from (suc n) v (xs ++ step ∷ [])) r ≡ Ok u
one_more n s t u x xs step again (Ok v) e h = again v h
one_more n s t u x xs step again (Err r) e h = absurd (never n r t h)

pub run_push : (n : ℕ) (s t u : State) (xs : List Step) (step : Step) → run_from n s xs ≡ Ok t → after t step ≡ Ok u → run_from n s (xs ++ step ∷ []) ≡ Ok u
run_push n s t u [] step h a = ap (λ v. go_on n (λ w. run_from (suc n) w []) (after v step)) (state_ok s t h) ∙ ap (go_on n (λ w. run_from (suc n) w [])) a
run_push n s t u (x ∷ xs) step h a = one_more n s t u x xs step (λ v g. run_push (suc n) v t u xs step g a) (after s x) refl h

take_more : (steps : List Step) (i : ℕ) (step : Step) → i < length steps → step ≡ get_or steps i step → take (i + 1) steps ≡ take i steps ++ step ∷ []
take_more [] i step h e = absurd (omega arith)
take_more (x ∷ steps) zero step h e = ap (λ y. y ∷ []) (sym e)
take_more (x ∷ steps) (suc i) step h e =
    let k : suc i + 1 ≡ suc (i + 1) = omega arith in rw k (ap (λ ys. x ∷ ys) (take_more steps i step (omega arith) e))

-- the steps so far, and this one
pub run_so_far : (s t u : State) (steps : List Step) (i : ℕ) (step : Step) → i < length steps → step ≡ get_or steps i step
    → run s (take i steps) ≡ Ok t → after t step ≡ Ok u → run s (take (i + 1) steps) ≡ Ok u
run_so_far s t u steps i step h e r a = ap (λ xs. run_from 1 s xs) (take_more steps i step h e) ∙ run_push 1 s t u (take i steps) step r a

-- ---- a loop over the steps

-- from s, the first i steps led to t, and what is left leads where all of them do
pub record IsSoFar (s t : State) (steps : List Step) (i : ℕ) : Type 0 where
  pub rest : run_from (i + 1) t (drop i steps) ≡ run s steps
  pub so_far : run s (take i steps) ≡ Ok t

pub begin_so_far : (s : State) (steps : List Step) → IsSoFar s s steps 0
begin_so_far s steps = record { rest = refl; so_far = refl }

pub more_so_far : (s t u : State) (steps : List Step) (i : ℕ) (step : Step) → IsSoFar s t steps i → i < length steps → step ≡ get_or steps i step → after t step ≡ Ok u → IsSoFar s u steps (i + 1)
more_so_far s t u steps i step f h e a =
    let k : suc (i + 1) ≡ i + 1 + 1 = omega arith in
    record {
      rest = ap (λ n. run_from n u (drop (i + 1) steps)) (sym k) ∙ (sym (run_next (i + 1) t u steps i step h e a) ∙ f.rest);
      so_far = run_so_far s t u steps i step h e f.so_far a;
    }

pub end_so_far : (s t : State) (steps : List Step) (i : ℕ) → IsSoFar s t steps i → length steps ≤ i → run s steps ≡ Ok t
end_so_far s t steps i f h = sym f.rest ∙ run_end (i + 1) t steps i h

pub refused_so_far : (s t : State) (steps : List Step) (i : ℕ) (step : Step) (r : Refusal) → IsSoFar s t steps i → i < length steps → step ≡ get_or steps i step → after t step ≡ Err r → run s steps ≡ Err (i + 1, r)
refused_so_far s t steps i step r f h e a = sym f.rest ∙ run_refused (i + 1) t r steps i step h e a

-- within the list any default serves
same_element : (steps : List Step) (i : ℕ) (d e : Step) → i < length steps → get_or steps i d ≡ get_or steps i e
same_element [] i d e h = absurd (omega arith)
same_element (x ∷ steps) zero d e h = refl
same_element (x ∷ steps) (suc i) d e h = same_element steps i d e (omega arith)

pub more_so_far_at : (s t u : State) (steps : List Step) (i : ℕ) (d : Step) → IsSoFar s t steps i → i < length steps → after t (get_or steps i d) ≡ Ok u → IsSoFar s u steps (i + 1)
more_so_far_at s t u steps i d f h a = more_so_far s t u steps i (get_or steps i d) f h (same_element steps i d (get_or steps i d) h) a
