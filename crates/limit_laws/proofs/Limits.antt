-- Every rewriting keeps the limits.
use Rattle.std.proofs.Common.{◌≡◌, ℕ, zero, suc, ◌+◌, ◌-◌, ◌≤◌, List, [], ◌∷◌, ◌++◌, length, map, refl, ap, arith, Bool, true, false}
use Rattle.std.specs.Prelude.{Option, Some, None, nat_lt, if◌then◌else◌, option_map}
use Rattle.std.proofs.lemmas.Bool.{ltb-false}
use Rattle.clp_model.specs.declared.limit.Limit.{Limit}
use Rattle.clp_model.specs.declared.limit.Limit.TheVariants.{Clauses, Nodes}
use Rattle.clp_model.specs.Clauses.{Clause}
use Rattle.clp_model.specs.Canonical.{clause_size}
use Rattle.clause_model.specs.Load.{sizes_of}
use Rattle.map_model.specs.State.{Entry, State, entries_where, is_live, live_count, nodes_of, loaded_entry}
use Rattle.map_model.specs.Rewriting.{changed_at, dead_entry, killed, state_limit}
use Rattle.limit_laws.specs.Limits.{IsWithinLimits, StartIsWithinLimits, StepKeepsLimits, RunKeepsLimits}
use Rattle.limit_laws.proofs.Rewritings.{after_rewrites, IsKept, run_keeps}

-- ---- the nodes of live entries

put : (b : Bool) (e : Entry) (xs ys : List Entry) → nodes_of xs ≤ nodes_of ys → nodes_of (if b then e ∷ xs else xs) ≤ nodes_of (if b then e ∷ ys else ys)
put true e xs ys h = omega (arith, h)
put false e xs ys h = h

behind : (b : Bool) (e : Entry) (xs : List Entry) → nodes_of xs ≤ nodes_of (if b then e ∷ xs else xs)
behind true e xs = omega arith
behind false e xs = omega arith

-- where an entry goes, no more nodes are live
fewer : (es : List (Option Entry)) (n : ℕ) → nodes_of (entries_where is_live (changed_at dead_entry es n)) ≤ nodes_of (entries_where is_live es)
fewer [] n = omega arith
fewer (None ∷ es) zero = omega arith
fewer (Some f ∷ es) zero = behind f.live f (entries_where is_live es)
fewer (None ∷ es) (suc n) = fewer es n
fewer (Some f ∷ es) (suc n) = put f.live f (entries_where is_live (changed_at dead_entry es n)) (entries_where is_live es) (fewer es n)

all_fewer : (es : List (Option Entry)) (ids : List ℕ) → nodes_of (entries_where is_live (killed es ids)) ≤ nodes_of (entries_where is_live es)
all_fewer es [] = omega arith
all_fewer es (id ∷ ids) =
    let one = fewer es (id - 1) in
    let more = all_fewer (changed_at dead_entry es (id - 1)) ids in
    omega (arith, one, more)

put_more : (b : Bool) (e : Entry) (xs : List Entry) (n m : ℕ) → nodes_of xs ≤ n + m → nodes_of (if b then e ∷ xs else xs) ≤ (clause_size e.clause + n) + m
put_more true e xs n m h = omega (arith, h)
put_more false e xs n m h = omega (arith, h)

-- new entries have at most their nodes
live_new : (new : List Entry) → nodes_of (entries_where is_live (map Some new)) ≤ nodes_of new
live_new [] = omega arith
live_new (e ∷ new) = let h = put_more e.live e (entries_where is_live (map Some new)) (nodes_of new) 0 (omega (arith, live_new new)) in omega (arith, h)

put_joined : (b : Bool) (e : Entry) (xs ys : List Entry) (n : ℕ) → nodes_of ys ≤ nodes_of xs + n → nodes_of (if b then e ∷ ys else ys) ≤ nodes_of (if b then e ∷ xs else xs) + n
put_joined true e xs ys n h = omega (arith, h)
put_joined false e xs ys n h = h

joined : (es : List (Option Entry)) (new : List Entry) → nodes_of (entries_where is_live (es ++ map Some new)) ≤ nodes_of (entries_where is_live es) + nodes_of new
joined [] new = let h = live_new new in omega (arith, h)
joined (None ∷ es) new = joined es new
joined (Some e ∷ es) new = put_joined e.live e (entries_where is_live es) (entries_where is_live (es ++ map Some new)) (nodes_of new) (joined es new)

-- ---- a state within the limits

some_none : (limit : Limit) → ◌≡◌ {A = Option Limit} (Some limit) None → ⊥
some_none limit e = cc

not_less : (n m : ℕ) → nat_lt n m ≡ false → m ≤ n
not_less n m h = ltb-false n m h

by_nodes : (b : Bool) → (if b then Some Nodes else None) ≡ None → b ≡ false
by_nodes true h = absurd (some_none Nodes h)
by_nodes false h = refl

by_clauses : (b : Bool) (next : Option Limit) → (if b then Some Clauses else next) ≡ None → (b ≡ false) × (next ≡ None)
by_clauses true next h = absurd (some_none Clauses h)
by_clauses false next h = (refl, h)

few_of : (s : State) → state_limit s ≡ None → (live_count s ≤ 4096) × (s.nodes ≤ 8388608)
few_of s h =
    let both = by_clauses (nat_lt 4096 (live_count s)) (if nat_lt 8388608 s.nodes then Some Nodes else None) h in
    (not_less 4096 (live_count s) both.0, not_less 8388608 s.nodes (by_nodes (nat_lt 8388608 s.nodes) both.1))

kept : IsKept IsWithinLimits
kept s t r h =
    let limits = few_of t r.within in
    let entries : t.entries ≡ killed s.entries r.dead ++ map Some r.entries = ap (λ (u : State). u.entries) r.is in
    let nodes : t.nodes ≡ s.nodes + nodes_of r.entries = ap (λ (u : State). u.nodes) r.is in
    let live_is = ap (λ es. nodes_of (entries_where is_live es)) entries in
    let a = joined (killed s.entries r.dead) r.entries in
    let b = all_fewer s.entries r.dead in
    let c = h.counted in
    record { few = limits.0; counted = omega (arith, live_is, nodes, a, b, c); small = limits.1 }

pub step_keeps_limits : StepKeepsLimits
step_keeps_limits s t step h within = kept s t (after_rewrites s t step h) within

pub run_keeps_limits : RunKeepsLimits
run_keeps_limits s t steps h within = run_keeps IsWithinLimits kept 1 s t steps h within

-- ---- the start state

loaded_nodes : (cs : List (Option Clause)) → nodes_of (entries_where is_live (map (option_map loaded_entry) cs)) ≡ sizes_of cs
loaded_nodes [] = refl
loaded_nodes (None ∷ cs) = loaded_nodes cs
loaded_nodes (Some c ∷ cs) = ap (λ n. clause_size c + n) (loaded_nodes cs)

loaded_few : (cs : List (Option Clause)) → length (entries_where is_live (map (option_map loaded_entry) cs)) ≤ length cs
loaded_few [] = omega arith
loaded_few (None ∷ cs) = let h = loaded_few cs in omega (arith, h)
loaded_few (Some c ∷ cs) = let h = loaded_few cs in omega (arith, h)

pub start_within : StartIsWithinLimits
start_within clauses preds few small =
    let a = loaded_few clauses in
    let b = loaded_nodes clauses in
    record { few = omega (arith, a, few); counted = omega (arith, b); small = small }
