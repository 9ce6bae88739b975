-- The resolvents with entries in turn, and the entries of new clauses.
use Rattle.std.proofs.Common.{◌≡◌, ℕ, zero, suc, ◌+◌, ◌-◌, ◌<◌, ◌≤◌, List, [], ◌∷◌, ◌++◌, length, take, drop, slice_index_or, Option, Some, None, Result, Ok, Err, Bool, true, false, refl, ap, ◌∙◌, sym, arith, ◌⊎◌, inl, inr}
use Rattle.std.specs.Prelude.{if◌then◌else◌}
use Rattle.std.proofs.lemmas.Bool.{lt-ltb}
use Rattle.std.proofs.lemmas.List.{take_more, take_all, take-append-drop, append-nil}
use Rattle.map_model.specs.declared.refusal.Refusal.TheVariants.{NoMemory}
use Rattle.clp_model.specs.declared.tree.Variable.{Variable}
use Rattle.clp_model.specs.declared.tree.Tree.{Tree}
use Rattle.clp_model.specs.Clauses.{Clause}
use Rattle.term_store.specs.Trees.{Keeps}
use Rattle.clause_model.specs.Canonical as clauses
use Rattle.clause_model.specs.Canonical.{new_clause}
use Rattle.clause_store.proofs.Kept.{clause_in_kept, is_stored_kept}
use Rattle.unfold_model.specs.Resolvent.{resolvent}
use Rattle.map_model.specs.declared.refusal.Refusal.{Refusal}
use Rattle.map_model.specs.State.{Entry, State, entry_at, if_live, live_at}
use Rattle.map_model.specs.Rewriting.{Draft, new_entry, put_first, new_entries}
use Rattle.map_model.specs.Unfolding.{drafted, resolvent_with, resolvents_from}
use Rattle.map_state.specs.declared.change.Made.{Made}
use Rattle.map_state.specs.Changes.{AllMade, made_entry, made_entries}
use Rattle.rules_unfold.specs.Entries.{then_entries}

-- ---- new clauses one after another
after_nothing : (r : Result (List Entry) Refusal) → r ≡ then_entries (Ok []) r
after_nothing (Ok es) = refl
after_nothing (Err x) = refl

first_then : (e : Clause → Entry) (c : Result Clause clauses.Refusal) (r s : Result (List Entry) Refusal) → put_first e c (then_entries r s) ≡ then_entries (put_first e c r) s
first_then e (Ok c) (Ok es) (Ok fs) = refl
first_then e (Ok c) (Ok es) (Err x) = refl
first_then e (Ok c) (Err x) s = refl
first_then e (Err x) r s = refl

entries_both : (n : ℕ) (xs ys : List Draft) → new_entries n (xs ++ ys) ≡ then_entries (new_entries n xs) (new_entries n ys)
entries_both n [] ys = after_nothing (new_entries n ys)
entries_both n (d ∷ xs) ys =
    ap (put_first (new_entry n d.mark d.parents) (new_clause d.clause)) (entries_both n xs ys)
    ∙ first_then (new_entry n d.mark d.parents) (new_clause d.clause) (new_entries n xs) (new_entries n ys)

-- ---- the resolvents with entries one after another
assoc : (xs ys zs : List Draft) → (xs ++ ys) ++ zs ≡ xs ++ (ys ++ zs)
assoc [] ys zs = refl
assoc (x ∷ xs) ys zs = ap (λ (v : List Draft). x ∷ v) (assoc xs ys zs)

module _ (id : ℕ) (c : Clause) (i : ℕ) where
  from_both : (by : ℕ) (xs ys : List (Option Entry)) → resolvents_from id c i by (xs ++ ys) ≡ resolvents_from id c i by xs ++ resolvents_from id c i (by + length xs) ys
  from_both by [] ys = let e : by ≡ by + 0 = omega arith in ap (λ (k : ℕ). resolvents_from id c i k ys) e
  from_both by (None ∷ xs) ys =
      let e : suc by + length xs ≡ by + suc (length xs) = omega arith in
      from_both (suc by) xs ys ∙ ap (λ (k : ℕ). resolvents_from id c i (suc by) xs ++ resolvents_from id c i k ys) e
  from_both by (Some e ∷ xs) ys =
      let q : suc by + length xs ≡ by + suc (length xs) = omega arith in
      ap (λ (v : List Draft). resolvent_with id c i by e ++ v) (from_both (suc by) xs ys ∙ ap (λ (k : ℕ). resolvents_from id c i (suc by) xs ++ resolvents_from id c i k ys) q)
      ∙ sym (assoc (resolvent_with id c i by e) (resolvents_from id c i (suc by) xs) (resolvents_from id c i (by + suc (length xs)) ys))

  -- with one entry
  one_dead : (by : ℕ) (o : Option Entry) → if_live o ≡ None → resolvents_from id c i by (o ∷ []) ≡ []
  one_dead by None h = refl
  one_dead by (Some e) h = go e.live h
    where
      go : (b : Bool) → (if b then Some e else None) ≡ None → (if b then drafted id by (resolvent c i e.clause) else []) ++ [] ≡ []
      go true k = absurd (cc (k))
      go false k = refl

  one_live : (by : ℕ) (o : Option Entry) (f : Entry) → if_live o ≡ Some f → resolvents_from id c i by (o ∷ []) ≡ drafted id by (resolvent c i f.clause)
  one_live by None f h = absurd (cc (h))
  one_live by (Some e) f h = go e.live h
    where
      go : (b : Bool) → (if b then Some e else None) ≡ Some f → (if b then drafted id by (resolvent c i e.clause) else []) ++ [] ≡ drafted id by (resolvent c i f.clause)
      go true k =
          let same : e ≡ f = some_back k in
          append-nil (drafted id by (resolvent c i e.clause)) ∙ ap (λ (x : Entry). drafted id by (resolvent c i x.clause)) same
        where
          some_back : Some e ≡ Some f → e ≡ f
          some_back q = cc (q)
      go false k = absurd (cc (k))

  length_front : (xs : List (Option Entry)) (k : ℕ) → k ≤ length xs → length (take k xs) ≡ k
  length_front xs zero w = refl
  length_front [] (suc k) w = absurd (omega arith)
  length_front (x ∷ xs) (suc k) w = ap suc (length_front xs k (omega arith))

  entry_there : (s : State) (k by : ℕ) → by ≡ k + 1 → entry_at s by ≡ slice_index_or s.entries k None
  entry_there s k by e =
      let positive = lt-ltb 0 by (omega (arith, e)) in
      let same : by - 1 ≡ k = omega (arith, e) in
      ap (λ (b : Bool). if b then slice_index_or s.entries (by - 1) None else None) positive
      ∙ ap (λ (j : ℕ). slice_index_or s.entries j None) same

  -- one more entry
  pub turn : (s : State) (k by n : ℕ) → by ≡ k + 1 → k < length s.entries
      → new_entries n (resolvents_from id c i 1 (take (k + 1) s.entries)) ≡ then_entries (new_entries n (resolvents_from id c i 1 (take k s.entries))) (new_entries n (resolvents_from id c i by (entry_at s by ∷ [])))
  turn s k by n e w =
      let o = slice_index_or s.entries k None in
      let place : 1 + length (take k s.entries) ≡ by = let l = length_front s.entries k (omega arith) in omega (arith, e, l) in
      ap (λ (v : List (Option Entry)). new_entries n (resolvents_from id c i 1 v)) (take_more s.entries k None w)
      ∙ ap (new_entries n) (from_both 1 (take k s.entries) (o ∷ []))
      ∙ ap (λ (j : ℕ). new_entries n (resolvents_from id c i 1 (take k s.entries) ++ resolvents_from id c i j (o ∷ []))) place
      ∙ ap (λ (x : Option Entry). new_entries n (resolvents_from id c i 1 (take k s.entries) ++ resolvents_from id c i by (x ∷ []))) (sym (entry_there s k by e))
      ∙ entries_both n (resolvents_from id c i 1 (take k s.entries)) (resolvents_from id c i by (entry_at s by ∷ []))

  -- where a part is refused, all is
  pub refused_all : (s : State) (k n : ℕ) (x : Refusal) → new_entries n (resolvents_from id c i 1 (take k s.entries)) ≡ Err x → new_entries n (resolvents_from id c i 1 s.entries) ≡ Err x
  refused_all s k n x h =
      let rest = resolvents_from id c i (1 + length (take k s.entries)) (drop k s.entries) in
      ap (λ (v : List (Option Entry)). new_entries n (resolvents_from id c i 1 v)) (sym (take-append-drop k s.entries))
      ∙ ap (new_entries n) (from_both 1 (take k s.entries) (drop k s.entries))
      ∙ entries_both n (resolvents_from id c i 1 (take k s.entries)) rest
      ∙ ap (λ (r : Result (List Entry) Refusal). then_entries r (new_entries n rest)) h

  pub dead_there : (s : State) (by : ℕ) → None ≡ live_at s by → resolvents_from id c i by (entry_at s by ∷ []) ≡ []
  dead_there s by h = one_dead by (entry_at s by) (sym h)

  pub live_there : (s : State) (by : ℕ) (f : Entry) → Some f ≡ live_at s by → resolvents_from id c i by (entry_at s by ∷ []) ≡ drafted id by (resolvent c i f.clause)
  live_there s by f h = one_live by (entry_at s by) f (sym h)

-- ---- what was made
pub made_kept : (old new : List (Tree Variable)) → Keeps old new → (n : ℕ) (ms : List Made) → AllMade old ms → made_entries n new ms ≡ made_entries n old ms
made_kept old new k n [] h = refl
made_kept old new k n (m ∷ ms) h =
    ap (λ (c : Clause). new_entry n m.mark m.parents c ∷ made_entries n new ms) (clause_in_kept old new m.clause k h.0)
    ∙ ap (λ (v : List Entry). made_entry n old m ∷ v) (made_kept old new k n ms h.1)

pub all_kept : (old new : List (Tree Variable)) → Keeps old new → (ms : List Made) → AllMade old ms → AllMade new ms
all_kept old new k [] h = tt
all_kept old new k (m ∷ ms) h = (is_stored_kept old new m.clause k h.0, all_kept old new k ms h.1)

pub all_push : (store : List (Tree Variable)) (ms : List Made) (m : Made) → AllMade store ms → AllMade store (m ∷ []) → AllMade store (ms ++ m ∷ [])
all_push store [] m a b = b
all_push store (x ∷ ms) m a b = (a.0, all_push store ms m a.1 b)

pub made_push : (n : ℕ) (store : List (Tree Variable)) (ms : List Made) (m : Made) → made_entries n store (ms ++ m ∷ []) ≡ made_entries n store ms ++ made_entries n store (m ∷ [])
made_push n store [] m = refl
made_push n store (x ∷ ms) m = ap (λ (v : List Entry). made_entry n store x ∷ v) (made_push n store ms m)

-- one more is made
pub made_more : (old new : List (Tree Variable)) (n : ℕ) (ms more : List Made) (m : Made) (r : Result (List Entry) Refusal) → Keeps old new → AllMade old ms → more ≡ ms ++ m ∷ [] → r ≡ Ok (made_entries n new (m ∷ []))
    → Ok (made_entries n new more) ≡ then_entries (Ok (made_entries n old ms)) r
made_more old new n ms more m r k h is e =
    let ok : List Entry → Result (List Entry) Refusal = λ v. Ok v in
    ap ok (ap (made_entries n new) is ∙ made_push n new ms m ∙ ap (λ (v : List Entry). v ++ made_entries n new (m ∷ [])) (made_kept old new k n ms h))
    ∙ ap (then_entries (Ok (made_entries n old ms))) (sym e)

-- none is
pub made_same : (old new : List (Tree Variable)) (n : ℕ) (ms : List Made) (r : Result (List Entry) Refusal) → Keeps old new → AllMade old ms → r ≡ Ok [] → Ok (made_entries n new ms) ≡ then_entries (Ok (made_entries n old ms)) r
made_same old new n ms r k h e =
    let ok : List Entry → Result (List Entry) Refusal = λ v. Ok v in
    ap ok (made_kept old new k n ms h ∙ sym (append-nil (made_entries n old ms)))
    ∙ ap (then_entries (Ok (made_entries n old ms))) (sym e)

-- ---- a loop's turn, where the ids before `by` are done
module _ (id : ℕ) (c : Clause) (i : ℕ) (s : State) (by : ℕ) where
  abbrev upto : ℕ → List Draft
  upto k = resolvents_from id c i 1 (take k s.entries)

  one_turn : (n : ℕ) (es : List Entry) → 1 ≤ by → by ≤ length s.entries → new_entries n (upto (by - 1)) ≡ Ok es
      → new_entries n (upto by) ≡ then_entries (Ok es) (new_entries n (resolvents_from id c i by (entry_at s by ∷ [])))
  one_turn n es first last done =
      let k = by - 1 in
      let e : by ≡ k + 1 = omega arith in
      ap (λ (j : ℕ). new_entries n (upto j)) e ∙ turn id c i s k by n e (omega arith)
      ∙ ap (λ (r : Result (List Entry) Refusal). then_entries r (new_entries n (resolvents_from id c i by (entry_at s by ∷ [])))) done

  pub turned : (n : ℕ) (es fs : List Entry) → 1 ≤ by → by ≤ length s.entries → new_entries n (upto (by - 1)) ≡ Ok es
      → Ok fs ≡ then_entries (Ok es) (new_entries n (resolvents_from id c i by (entry_at s by ∷ []))) → new_entries n (upto (by + 1 - 1)) ≡ Ok fs
  turned n es fs first last done h =
      let e : by + 1 - 1 ≡ by = omega arith in
      ap (λ (j : ℕ). new_entries n (upto j)) e ∙ one_turn n es first last done ∙ sym h

  pub refused_at : (es : ℕ → List Entry) (x : Refusal) → 1 ≤ by → by ≤ length s.entries → ((n : ℕ) → new_entries n (upto (by - 1)) ≡ Ok (es n))
      → (x ≡ NoMemory) ⊎ ((n : ℕ) → new_entries n (resolvents_from id c i by (entry_at s by ∷ [])) ≡ Err x)
      → (x ≡ NoMemory) ⊎ ((n : ℕ) → new_entries n (resolvents_from id c i 1 s.entries) ≡ Err x)
  refused_at es x first last done (inl m) = inl m
  refused_at es x first last done (inr h) =
      inr (λ n. refused_all id c i s by n x (one_turn n (es n) first last (done n) ∙ ap (then_entries (Ok (es n))) (h n)))

  pub whole : (n : ℕ) (es : List Entry) → length s.entries + 1 ≤ by → new_entries n (upto (by - 1)) ≡ Ok es → new_entries n (resolvents_from id c i 1 s.entries) ≡ Ok es
  whole n es last done =
      ap (λ (v : List (Option Entry)). new_entries n (resolvents_from id c i 1 v)) (sym (take_all (by - 1) s.entries (omega arith))) ∙ done
