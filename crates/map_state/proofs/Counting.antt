-- The limits of a state, counted.
use Rattle.std.proofs.Common.{◌≡◌, ℕ, suc, ◌+◌, ◌<◌, ◌≤◌, List, [], ◌∷◌, ◌++◌, length, refl, ap, arith, map, Bool, true, false, length-append}
use Rattle.std.specs.Prelude.{Option, Some, None, option_map, nat_lt, if◌then◌else◌}
use Rattle.std.proofs.lemmas.Bool.Decides.{nat_tests}
use Rattle.clp_model.specs.declared.limit.Limit.TheVariants.{Clauses, Nodes}
use Rattle.clp_model.specs.Clauses.{Clause}
use Rattle.clp_model.specs.Canonical.{clause_size}
use Rattle.clp_model.proofs.Trees.{size_positive}
use Rattle.clause_store.specs.Stored.{clause_in}
use Rattle.map_state.specs.declared.entry.Entry.{Entry as Row}
use Rattle.map_state.specs.declared.change.Made.{Made}
use Rattle.map_state.specs.declared.change.Change.{Change}
use Rattle.map_model.specs.State.{Entry, State, is_live, entries_where, live_count, nodes_of}
use Rattle.map_model.specs.Rewriting.{state_limit, killed}
use Rattle.map_state.specs.Seen.{Trees, entry_in, entries_in, AllStored}
use Rattle.map_state.specs.Changes.{present, made_entries, AllNew, AreLive, IsChange, changed}
use Rattle.map_state.specs.Rows.{nodes_of_made}
use Rattle.map_state.proofs.Killing.{killed_fewer}

-- ---- the limits
pub past_clauses : (s : State) → 4096 < live_count s → state_limit s ≡ Some Clauses
past_clauses s h = let e : nat_lt 4096 (live_count s) ≡ true = grind (arith, nat_tests) in rw e refl

pub past_nodes : (s : State) → live_count s ≤ 4096 → 8388608 < s.nodes → state_limit s ≡ Some Nodes
past_nodes s h k =
    let e : nat_lt 4096 (live_count s) ≡ false = grind (arith, nat_tests) in
    let f : nat_lt 8388608 s.nodes ≡ true = grind (arith, nat_tests) in
    rw (e, f) refl

pub past_none : (s : State) → live_count s ≤ 4096 → s.nodes ≤ 8388608 → state_limit s ≡ None
past_none s h k =
    let e : nat_lt 4096 (live_count s) ≡ false = grind (arith, nat_tests) in
    let f : nat_lt 8388608 s.nodes ≡ false = grind (arith, nat_tests) in
    rw (e, f) refl

within_by : (a b : ℕ) → (if nat_lt 4096 a then Some Clauses else (if nat_lt 8388608 b then Some Nodes else None)) ≡ None → (a ≤ 4096) × (b ≤ 8388608)
within_by a b h = grind (arith, nat_tests)

pub within : (s : State) → state_limit s ≡ None → (live_count s ≤ 4096) × (s.nodes ≤ 8388608)
within s h = within_by (live_count s) s.nodes h

-- ---- the live entries
pub where_append : (test : Entry → Bool) (xs ys : List (Option Entry)) → entries_where test (xs ++ ys) ≡ entries_where test xs ++ entries_where test ys
where_append test [] ys = refl
where_append test (None ∷ xs) ys = where_append test xs ys
where_append test (Some e ∷ xs) ys = by_flag (test e) e (entries_where test (xs ++ ys)) (entries_where test xs) (entries_where test ys) (where_append test xs ys)
  where
    by_flag : (b : Bool) (c : Entry) (all front back : List Entry) → all ≡ front ++ back → (if b then c ∷ all else all) ≡ (if b then c ∷ front else front) ++ back
    by_flag true c all front back h = ap (λ cs. c ∷ cs) h
    by_flag false c all front back h = h

pub made_live : (number : ℕ) (store : Trees) (made : List Made) → length (entries_where is_live (map Some (made_entries number store made))) ≡ length made
made_live number store [] = refl
made_live number store (m ∷ ms) = ap suc (made_live number store ms)

-- ---- the nodes
pub made_nodes : (number : ℕ) (store : Trees) (made : List Made) → nodes_of (made_entries number store made) ≡ nodes_of_made store made
made_nodes number store [] = refl
made_nodes number store (m ∷ ms) = ap (λ n. clause_size (clause_in store m.clause) + n) (made_nodes number store ms)

pub size_of_clause : (c : Clause) → 0 < clause_size c
unfolding clause_size
size_of_clause c = omega (arith, size_positive c.head)

pub as_many_nodes : (es : List Entry) → length es ≤ nodes_of es
as_many_nodes [] = omega arith
as_many_nodes (e ∷ es) = omega (arith, size_of_clause e.clause, as_many_nodes es)

-- ---- a state after a change
pub live_after : (entries : List (Option Entry)) (dead : List ℕ) (more : List (Option Entry)) → AreLive entries dead
    → length (entries_where is_live (killed entries dead ++ more)) + length dead ≡ length (entries_where is_live entries) + length (entries_where is_live more)
live_after entries dead more h =
    omega (arith, ap length (where_append is_live (killed entries dead) more), length-append (entries_where is_live (killed entries dead)) (entries_where is_live more), killed_fewer entries dead h)

-- ---- new entries
pub present_some : (es : List Entry) → present (map Some es) ≡ es
present_some [] = refl
present_some (e ∷ es) = ap (λ xs. e ∷ xs) (present_some es)

pub all_present : (store : Trees) (rows : List (Option Row)) → AllNew rows → entries_in store rows ≡ map Some (present (entries_in store rows))
all_present store [] h = refl
all_present store (None ∷ rows) h = absurd h
all_present store (Some e ∷ rows) h = ap (λ es. Some (entry_in store e) ∷ es) (all_present store rows h.1)

pub new_live : (store : Trees) (rows : List (Option Row)) → AllNew rows → length (entries_where is_live (entries_in store rows)) ≡ length rows
new_live store [] h = refl
new_live store (None ∷ rows) h = absurd h
new_live store (Some e ∷ rows) h = rw h.0 (ap suc (new_live store rows h.1))

pub present_length : (store : Trees) (rows : List (Option Row)) → AllNew rows → length (present (entries_in store rows)) ≡ length rows
present_length store [] h = refl
present_length store (None ∷ rows) h = absurd h
present_length store (Some e ∷ rows) h = ap suc (present_length store rows h.1)

-- ---- lists of entries put together
pub in_append : (store : Trees) (xs ys : List (Option Row)) → entries_in store (xs ++ ys) ≡ entries_in store xs ++ entries_in store ys
in_append store [] ys = refl
in_append store (x ∷ xs) ys = ap (λ es. option_map (entry_in store) x ∷ es) (in_append store xs ys)

pub stored_append : (store : Trees) (xs ys : List (Option Row)) → AllStored store xs → AllStored store ys → AllStored store (xs ++ ys)
stored_append store [] ys a b = b
stored_append store (None ∷ xs) ys a b = stored_append store xs ys a b
stored_append store (Some e ∷ xs) ys a b = (a.0, stored_append store xs ys a.1 b)

pub new_append : (xs ys : List (Option Row)) → AllNew xs → AllNew ys → AllNew (xs ++ ys)
new_append [] ys a b = b
new_append (None ∷ xs) ys a b = absurd a
new_append (Some e ∷ xs) ys a b = (a.0, new_append xs ys a.1 b)

pub length_in : (store : Trees) (rows : List (Option Row)) → length (entries_in store rows) ≡ length rows
length_in store [] = refl
length_in store (r ∷ rows) = ap suc (length_in store rows)

pub live_changed : (s : State) (change : Change) → IsChange s change → live_count (changed s change) + length change.dead ≡ live_count s + length change.made
live_changed s change h =
    let more = made_entries (length s.steps + 1) change.scratch change.made in
    omega (arith, live_after s.entries change.dead (map Some more) h.dead, made_live (length s.steps + 1) change.scratch change.made)

pub nodes_changed : (s : State) (change : Change) → (changed s change).nodes ≡ s.nodes + nodes_of_made change.scratch change.made
nodes_changed s change = ap (λ n. s.nodes + n) (made_nodes (length s.steps + 1) change.scratch change.made)

pub few_dead : (s : State) (change : Change) → IsChange s change → length change.dead ≤ live_count s
few_dead s change h = omega (arith, killed_fewer s.entries change.dead h.dead)
