-- Entries that are no longer live.
use Rattle.std.proofs.Common.{◌≡◌, ℕ, zero, suc, ◌+◌, ◌-◌, ◌<◌, ◌≤◌, List, [], ◌∷◌, length, refl, ap, ◌∙◌, arith, Bool, true, false}
use Rattle.std.specs.Prelude.{Option, Some, None, option_map, IsSome, slice_set, slice_index_or, nat_lt, if◌then◌else◌}
use Rattle.std.proofs.lemmas.Bool.Decides.{nat_tests}
use Rattle.map_state.specs.declared.entry.Entry.{Entry as Row}
use Rattle.map_model.specs.State.{Entry, entry_of, if_live, is_live, entries_where}
use Rattle.map_model.specs.Rewriting.{changed_at, dead_entry, killed}
use Rattle.map_state.specs.Seen.{Trees, entry_in, entries_in, AllStored}
use Rattle.map_state.specs.Changes.{AreLive}
use Rattle.map_state.specs.Rows.{dead_row, rows_killed, AllIds}

pub changed_is_set : (rows : List (Option Row)) (n : ℕ) (d : Option Row) → n < length rows → slice_set rows n (dead_row (slice_index_or rows n d)) ≡ changed_at dead_row rows n
changed_is_set [] n d h = absurd (omega arith)
changed_is_set (r ∷ rows) zero d h = refl
changed_is_set (r ∷ rows) (suc n) d h = ap (λ rs. r ∷ rs) (changed_is_set rows n d (omega arith))

pub length_changed : {A : Type 0} (f : A → A) (xs : List A) (n : ℕ) → length (changed_at f xs n) ≡ length xs
length_changed f [] n = refl
length_changed f (x ∷ xs) zero = refl
length_changed f (x ∷ xs) (suc n) = ap suc (length_changed f xs n)

pub length_killed : (rows : List (Option Row)) (ids : List ℕ) → length (rows_killed rows ids) ≡ length rows
length_killed rows [] = refl
length_killed rows (id ∷ ids) = length_killed (changed_at dead_row rows (id - 1)) ids ∙ length_changed dead_row rows (id - 1)

dead_in : (store : Trees) (r : Option Row) → option_map (entry_in store) (dead_row r) ≡ dead_entry (option_map (entry_in store) r)
dead_in store None = refl
dead_in store (Some e) = refl

-- the entries that the rows stand for are changed likewise
pub changed_in : (store : Trees) (rows : List (Option Row)) (n : ℕ) → entries_in store (changed_at dead_row rows n) ≡ changed_at dead_entry (entries_in store rows) n
changed_in store [] n = refl
changed_in store (r ∷ rows) zero = ap (λ e. e ∷ entries_in store rows) (dead_in store r)
changed_in store (r ∷ rows) (suc n) = ap (λ es. option_map (entry_in store) r ∷ es) (changed_in store rows n)

pub killed_in : (store : Trees) (rows : List (Option Row)) (ids : List ℕ) → entries_in store (rows_killed rows ids) ≡ killed (entries_in store rows) ids
killed_in store rows [] = refl
killed_in store rows (id ∷ ids) = killed_in store (changed_at dead_row rows (id - 1)) ids ∙ ap (λ es. killed es ids) (changed_in store rows (id - 1))

stored_changed : (store : Trees) (rows : List (Option Row)) (n : ℕ) → AllStored store rows → AllStored store (changed_at dead_row rows n)
stored_changed store [] n s = tt
stored_changed store (None ∷ rows) zero s = s
stored_changed store (Some e ∷ rows) zero s = s
stored_changed store (None ∷ rows) (suc n) s = stored_changed store rows n s
stored_changed store (Some e ∷ rows) (suc n) s = (s.0, stored_changed store rows n s.1)

pub stored_killed : (store : Trees) (rows : List (Option Row)) (ids : List ℕ) → AllStored store rows → AllStored store (rows_killed rows ids)
stored_killed store rows [] s = s
stored_killed store rows (id ∷ ids) s = stored_killed store (changed_at dead_row rows (id - 1)) ids (stored_changed store rows (id - 1) s)

-- one entry fewer is live
flag_is : (b : Bool) (e : Entry) → IsSome (if b then Some e else None) → b ≡ true
flag_is true e h = refl
flag_is false e h = cc

counted_by : (b : Bool) (c : Entry) (xs ys : List Entry) → suc (length xs) ≡ length ys
    → suc (length (if b then c ∷ xs else xs)) ≡ length (if b then c ∷ ys else ys)
counted_by true c xs ys h = ap suc h
counted_by false c xs ys h = h

one_fewer : (es : List (Option Entry)) (n : ℕ) → IsSome (if_live (slice_index_or es n None)) → suc (length (entries_where is_live (changed_at dead_entry es n))) ≡ length (entries_where is_live es)
one_fewer [] n h = cc
one_fewer (None ∷ es) zero h = cc
one_fewer (Some e ∷ es) zero h = rw (flag_is e.live e h) refl
one_fewer (None ∷ es) (suc n) h = one_fewer es n h
one_fewer (Some e ∷ es) (suc n) h = counted_by e.live e (entries_where is_live (changed_at dead_entry es n)) (entries_where is_live es) (one_fewer es n h)

entry_of_suc : (es : List (Option Entry)) (n : ℕ) → entry_of es (suc n) ≡ slice_index_or es n None
entry_of_suc es n = let less : nat_lt 0 (suc n) ≡ true = grind (arith, nat_tests) in let e : suc n - 1 ≡ n = omega arith in rw (less, e) refl

-- ids that are live are ids
live_within : (es : List (Option Entry)) (n : ℕ) → IsSome (if_live (slice_index_or es n None)) → suc n ≤ length es
live_within [] n h = cc
live_within (e ∷ es) zero h = omega arith
live_within (e ∷ es) (suc n) h = let k = live_within es n h in omega arith

live_id : (es : List (Option Entry)) (id : ℕ) → IsSome (if_live (entry_of es id)) → (0 < id) × (id ≤ length es)
live_id es zero h = cc
live_id es (suc n) h = (omega arith, live_within es n (rw entry_of_suc at h))

live_fewer : (es : List (Option Entry)) (id : ℕ) → IsSome (if_live (entry_of es id)) → suc (length (entries_where is_live (changed_at dead_entry es (id - 1)))) ≡ length (entries_where is_live es)
live_fewer es zero h = cc
live_fewer es (suc n) h = let e : suc n - 1 ≡ n = omega arith in rw e (one_fewer es n (rw entry_of_suc at h))

-- as many fewer are live as there are ids
pub killed_fewer : (es : List (Option Entry)) (ids : List ℕ) → AreLive es ids → length (entries_where is_live (killed es ids)) + length ids ≡ length (entries_where is_live es)
killed_fewer es [] h = omega arith
killed_fewer es (id ∷ ids) h =
    let rest = killed_fewer (changed_at dead_entry es (id - 1)) ids h.1 in
    let one = live_fewer es id h.0 in
    omega arith

pub live_ids : (n : ℕ) (es : List (Option Entry)) (ids : List ℕ) → length es ≡ n → AreLive es ids → AllIds n ids
live_ids n es [] e h = tt
live_ids n es (id ∷ ids) e h =
    let k = live_id es id h.0 in
    ((k.0, omega arith), live_ids n (changed_at dead_entry es (id - 1)) ids (length_changed dead_entry es (id - 1) ∙ e) h.1)
