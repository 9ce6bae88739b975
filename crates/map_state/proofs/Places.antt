-- The elements of lists by their places.
use Rattle.std.proofs.Common.{◌≡◌, ℕ, zero, suc, ◌+◌, ◌<◌, List, [], ◌∷◌, ◌++◌, length, refl, ap, ◌∙◌, sym, subst, arith, map, take, drop, get_or, add-one, Bor}
use Rattle.std.specs.Prelude.{Option, Some, None, IfSome, slice_index_or, if◌then◌else◌, true, nat_lt}
use Rattle.std.specs.Option.{option_copied}
use Rattle.std.proofs.Math.Seq.{drop-cons}
use Rattle.std.proofs.lemmas.List.{take_more}
use Rattle.std.proofs.lemmas.Bool.Decides.{nat_tests}
use Rattle.term_store.specs.Trees.{Keeps}
use Rattle.clause_store.specs.Stored.{IsStored}
use Rattle.map_state.specs.declared.entry.Entry.{Entry as Row}
use Rattle.map_state.specs.declared.change.Made.{Made}
use Rattle.map_model.specs.State.{ids_where, is_live}
use Rattle.map_state.specs.Seen.{Trees, entry_in, entries_in, AllStored}
use Rattle.map_state.specs.Changes.{AllMade, made_entry, made_entries}
use Rattle.map_state.specs.Rows.{AreMade, is_live_row}
use Rattle.map_state.proofs.KeptClauses.{entries_kept, all_stored_kept}
use Rattle.map_state.proofs.Counting.{in_append, stored_append, new_append}

stored_at : (store : Trees) (rows : List (Option Row)) (i : ℕ) (d : Option Row) (e : Row) → AllStored store rows → i < length rows → slice_index_or rows i d ≡ Some e → IsStored store e.clause
stored_at store [] i d e s k h = absurd (omega arith)
stored_at store (None ∷ rows) zero d e s k h = cc
stored_at store (Some f ∷ rows) zero d e s k h = let same : f ≡ e = cc in let P : Row → Type 0 = λ r. IsStored store r.clause in subst P same s.0
stored_at store (None ∷ rows) (suc i) d e s k h = stored_at store rows i d e s (omega arith) h
stored_at store (Some f ∷ rows) (suc i) d e s k h = stored_at store rows i d e s.1 (omega arith) h

pub stored_fetched : (store : Trees) (rows : List (Option Row)) (i : ℕ) (o : Option Row) (r : Option (Bor Row)) → AllStored store rows → option_copied r ≡ o → true ≡ nat_lt i (length rows)
    → o ≡ slice_index_or rows i o → IfSome r (λ e. IsStored store e.now.clause)
stored_fetched store rows i o None s e k h = tt
stored_fetched store rows i o (Some b) s e k h = let less : i < length rows = grind (arith, nat_tests) in stored_at store rows i o b.now s less (sym h ∙ sym e)

-- ---- one more new entry
made_entries_push : (number : ℕ) (scratch : Trees) (made : List Made) (m : Made) → map Some (made_entries number scratch (made ++ m ∷ [])) ≡ map Some (made_entries number scratch made) ++ Some (made_entry number scratch m) ∷ []
made_entries_push number scratch [] m = refl
made_entries_push number scratch (d ∷ made) m = ap (λ es. Some (made_entry number scratch d) ∷ es) (made_entries_push number scratch made m)

pub made_none : (store scratch : Trees) (number : ℕ) → AreMade store number scratch [] []
made_none store scratch number = record { are = refl; stored = tt; fresh = tt }

pub made_more : (old new scratch : Trees) (number i : ℕ) (made : List Made) (m : Made) (rows more : List (Option Row)) (e : Row)
    → AreMade old number scratch (take i made) rows → Keeps old new → i < length made → m ≡ get_or made i m
    → entry_in new e ≡ made_entry number scratch m → IsStored new e.clause → e.live ≡ true → more ≡ rows ++ Some e ∷ []
    → AreMade new number scratch (take (i + 1) made) more
made_more old new scratch number i made m rows more e all keeps within item is stored live grown =
    let front : take (i + 1) made ≡ take i made ++ m ∷ [] = take_more made i m within ∙ ap (λ x. take i made ++ x ∷ []) (sym item) in
    let P : List Made → Type 0 = λ v. AreMade new number scratch v more in
    let Q : List (Option Row) → Type 0 = λ v. AreMade new number scratch (take i made ++ m ∷ []) v in
    let same = entries_kept old new keeps rows all.stored in
    subst P (sym front) (subst Q (sym grown) (record {
      are = in_append new rows (Some e ∷ []) ∙ ap (λ es. es ++ Some (entry_in new e) ∷ []) (same ∙ all.are) ∙ ap (λ x. map Some (made_entries number scratch (take i made)) ++ Some x ∷ []) is ∙ sym (made_entries_push number scratch (take i made) m);
      stored = stored_append new rows (Some e ∷ []) (all_stored_kept old new keeps rows all.stored) (stored, tt);
      fresh = new_append rows (Some e ∷ []) all.fresh (live, tt);
    }))

pub made_at : (store : Trees) (made : List Made) (i : ℕ) (m : Made) → i < length made → m ≡ get_or made i m → AllMade store (drop i made) → IsStored store m.clause × AllMade store (drop (i + 1) made)
made_at store made i m within item all =
    let cut : drop i made ≡ m ∷ drop (suc i) made = drop-cons made i m within ∙ ap (λ x. x ∷ drop (suc i) made) (sym item) in
    let P : List Made → Type 0 = AllMade store in
    let Q : ℕ → Type 0 = λ n. AllMade store (drop n made) in
    let both = subst P cut all in
    (both.0, subst Q (sym (add-one i)) both.1)

-- ---- the live ids after one more
pub ids_at : (store : Trees) (rows : List (Option Row)) (i id : ℕ) (r : Option Row) → i < length rows → r ≡ get_or rows i r
    → ids_where is_live id (entries_in store (drop i rows)) ≡ (if is_live_row r then id ∷ ids_where is_live (suc id) (entries_in store (drop (i + 1) rows)) else ids_where is_live (suc id) (entries_in store (drop (i + 1) rows)))
ids_at store rows i id r within item =
    let cut : drop i rows ≡ r ∷ drop (i + 1) rows = drop-cons rows i r within ∙ ap (λ x. x ∷ drop (suc i) rows) (sym item) ∙ ap (λ n. r ∷ drop n rows) (sym (add-one i)) in
    ap (λ rs. ids_where is_live id (entries_in store rs)) cut ∙ first_id r (drop (i + 1) rows)
  where
    first_id : (r : Option Row) (rest : List (Option Row)) → ids_where is_live id (entries_in store (r ∷ rest)) ≡ (if is_live_row r then id ∷ ids_where is_live (suc id) (entries_in store rest) else ids_where is_live (suc id) (entries_in store rest))
    first_id None rest = refl
    first_id (Some e) rest = refl
