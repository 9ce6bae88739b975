-- The text of the live clauses, entry by entry.
use Rattle.std.proofs.Common.{◌≡◌, ℕ, zero, suc, ◌+◌, ◌-◌, ◌<◌, ◌≤◌, List, [], ◌∷◌, ◌++◌, length, drop, refl, sym, ◌∙◌, ap, arith, append_assoc, Bool, true, false}
use Rattle.std.specs.Prelude.{Option, Some, None, slice_index_or, nat_lt, if◌then◌else◌}
use Rattle.std.proofs.lemmas.Bool.{lt-ltb}
use Rattle.clp_model.specs.Clauses.{Clause}
use Rattle.print_model.specs.Clauses.{clause_text, program_text}
use Rattle.map_model.specs.State.{Entry, entries_where, clauses_of, is_live, entry_of}
use Rattle.replay_model.specs.Replay.{entry_text}

-- the clauses of the live ones of these entries
abbrev live_in : List (Option Entry) → List Clause
live_in entries = clauses_of (entries_where is_live entries)

-- the text of the entries from this place on
abbrev pub text_from : List (Option Entry) → ℕ → List ℕ
text_from entries place = program_text (live_in (drop place entries))

first_text : (b : Bool) (e : Entry) (es : List Entry) → program_text (clauses_of (if b then e ∷ es else es)) ≡ (if b then clause_text e.clause else []) ++ program_text (clauses_of es)
unfolding program_text
first_text true e es = refl
first_text false e es = refl

pub text_next : (entries : List (Option Entry)) (place : ℕ) → place < length entries
    → text_from entries place ≡ entry_text (slice_index_or entries place None) ++ text_from entries (place + 1)
text_next [] place h = absurd (omega arith)
text_next (None ∷ entries) zero h = refl
text_next (Some e ∷ entries) zero h = first_text e.live e (entries_where is_live entries)
text_next (None ∷ entries) (suc place) h =
    let k : suc place + 1 ≡ suc (place + 1) = omega arith in rw k (text_next entries place (omega arith))
text_next (Some e ∷ entries) (suc place) h =
    let k : suc place + 1 ≡ suc (place + 1) = omega arith in rw k (text_next entries place (omega arith))

pub text_end : (entries : List (Option Entry)) (place : ℕ) → length entries ≤ place → text_from entries place ≡ []
unfolding program_text
text_end [] zero h = refl
text_end [] (suc place) h = refl
text_end (e ∷ entries) zero h = absurd (omega arith)
text_end (None ∷ entries) (suc place) h = text_end entries place (omega arith)
text_end (Some e ∷ entries) (suc place) h = text_end entries place (omega arith)

-- ---- a loop over the ids

pub text_of_id : (entries : List (Option Entry)) (id : ℕ) → 1 ≤ id → id ≤ length entries
    → text_from entries (id - 1) ≡ entry_text (entry_of entries id) ++ text_from entries id
text_of_id entries id low high =
    let k : id - 1 + 1 ≡ id = omega arith in
    let b : nat_lt 0 id ≡ true = lt-ltb 0 id low in
    text_next entries (id - 1) (omega arith)
    ∙ (ap (λ n. entry_text (slice_index_or entries (id - 1) None) ++ text_from entries n) k
    ∙ ap (λ t. entry_text (if t then slice_index_or entries (id - 1) None else None) ++ text_from entries id) (sym b))

-- one entry more was printed
pub text_more : (entries : List (Option Entry)) (id : ℕ) (old new all : List ℕ) → 1 ≤ id → id ≤ length entries → old ++ text_from entries (id - 1) ≡ all
    → new ≡ old ++ entry_text (entry_of entries id) → new ++ text_from entries (id + 1 - 1) ≡ all
text_more entries id old new all low high h e =
    let k : id + 1 - 1 ≡ id = omega arith in
    ap (λ n. new ++ text_from entries n) k
    ∙ (ap (λ xs. xs ++ text_from entries id) e
    ∙ (append_assoc old (entry_text (entry_of entries id)) (text_from entries id)
    ∙ (ap (λ xs. old ++ xs) (sym (text_of_id entries id low high)) ∙ h)))

add_nil : (xs : List ℕ) → xs ++ [] ≡ xs
add_nil [] = refl
add_nil (x ∷ xs) = ap (λ ys. x ∷ ys) (add_nil xs)

-- and all were, in the end
pub text_done : (entries : List (Option Entry)) (id : ℕ) (text all : List ℕ) → length entries + 1 ≤ id → text ++ text_from entries (id - 1) ≡ all → text ≡ all
text_done entries id text all h e =
    sym (add_nil text) ∙ (ap (λ xs. text ++ xs) (sym (text_end entries (id - 1) (omega arith))) ∙ e)
