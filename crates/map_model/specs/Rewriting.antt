-- What every step does that rewrites clauses: clauses go, new ones come, and the limits are tested.
use Rattle.std.specs.Prelude.{ℕ, zero, suc, ◌+◌, ◌-◌, Bool, true, false, List, [], ◌∷◌, ◌++◌, map, length, Option, Some, None, Result, Ok, Err, nat_lt, if◌then◌else◌}
use Rattle.clp_model.specs.declared.limit.Limit.{Limit}
use Rattle.clp_model.specs.declared.limit.Limit.TheVariants.{Clauses, Nodes}
use Rattle.clp_model.specs.declared.predicate.Pred.{Pred}
use Rattle.clp_model.specs.Clauses.{Clause}
use Rattle.clause_model.specs.Canonical as clauses
use Rattle.clause_model.specs.Canonical.{new_clause}
use Rattle.map_model.specs.declared.step.Step.{Step}
use Rattle.map_model.specs.declared.refusal.Refusal.{Refusal}
use Rattle.map_model.specs.declared.refusal.Refusal.TheVariants.{Overflow, TooLarge}
use Rattle.map_model.specs.State.{Entry, State, live_count, nodes_of, clauses_of}

-- a new clause before its canonical form, its mark and its parents
pub record Draft : Type 0 where
  pub clause : Clause
  pub mark : Bool
  pub parents : List ℕ

-- the ids of the clauses that go, the clauses that come, the predicate that the one new clause defines, if it defines
-- one, and the step as it is kept in the history
pub record Rewriting : Type 0 where
  pub dead : List ℕ
  pub made : List Draft
  pub defines : Option Pred
  pub step : Step

-- why a step is refused whose new clause is
abbrev pub refusal_of : clauses.Refusal → Refusal
refusal_of clauses.Overflow = Overflow 0
refusal_of (clauses.TooLarge limit) = TooLarge limit

-- the entry of a clause that the step of this number makes
abbrev pub new_entry : ℕ → Bool → List ℕ → Clause → Entry
new_entry number mark parents c = record { clause = c; mark = mark; live = true; made_at = number; parents = parents }

-- the entry of a new clause before those of the next ones, or why the first refused clause is refused
abbrev pub put_first : (Clause → Entry) → Result Clause clauses.Refusal → Result (List Entry) Refusal → Result (List Entry) Refusal
put_first entry (Ok c) (Ok entries) = Ok (entry c ∷ entries)
put_first entry (Ok c) (Err refusal) = Err refusal
put_first entry (Err refusal) rest = Err (refusal_of refusal)

-- the entries of new clauses, each in canonical form, or why the first refused clause is refused
abbrev pub new_entries : ℕ → List Draft → Result (List Entry) Refusal
new_entries number [] = Ok []
new_entries number (d ∷ ds) = put_first (new_entry number d.mark d.parents) (new_clause d.clause) (new_entries number ds)

-- the list with another element at this place
abbrev pub changed_at : {A : Type 0} → (A → A) → List A → ℕ → List A
changed_at f [] place = []
changed_at f (x ∷ xs) zero = f x ∷ xs
changed_at f (x ∷ xs) (suc place) = x ∷ changed_at f xs place

-- the entry, no longer live
abbrev pub dead_entry : Option Entry → Option Entry
dead_entry None = None
dead_entry (Some e) = Some (record e { live = false })

-- the entries with these ids are no longer live
abbrev pub killed : List (Option Entry) → List ℕ → List (Option Entry)
killed entries [] = entries
killed entries (id ∷ ids) = killed (changed_at dead_entry entries (id - 1)) ids

-- the new clauses that are kept as definitions
abbrev pub kept_by : Option Pred → List Entry → List Clause
kept_by None entries = []
kept_by (Some p) entries = clauses_of entries

-- the dead are no longer live, the new entries take the next free ids, and the step is put last
abbrev pub replaced : State → List ℕ → List Entry → Option Pred → Step → State
replaced s dead entries defines step =
    record s {
      entries = killed s.entries dead ++ map Some entries;
      definitions = s.definitions ++ kept_by defines entries;
      steps = s.steps ++ step ∷ [];
      nodes = s.nodes + nodes_of entries;
    }

-- the limit that a new state is past, if there is one
abbrev pub state_limit : State → Option Limit
state_limit s =
    if nat_lt 4096 (live_count s) then Some Clauses
    else (if nat_lt 8388608 s.nodes then Some Nodes
    else None)

-- the state, unless a limit is past
abbrev pub unless_limit : Option Limit → State → Result State Refusal
unless_limit None s = Ok s
unless_limit (Some limit) s = Err (TooLarge limit)

-- a new state, or the refusal by the limit that it is past
abbrev pub within_limits : State → Result State Refusal
within_limits s = unless_limit (state_limit s) s

-- the new state with these entries, or why a new clause is refused
abbrev pub replaced_by : State → Rewriting → Result (List Entry) Refusal → Result State Refusal
replaced_by s r (Ok entries) = within_limits (replaced s r.dead entries r.defines r.step)
replaced_by s r (Err refusal) = Err refusal

-- The state after a rewriting, or the first refusal: of each new clause in order, then by the number of live clauses,
-- then by all nodes.
abbrev pub rewritten : State → Rewriting → Result State Refusal
rewritten s r = replaced_by s r (new_entries (length s.steps + 1) r.made)

-- what follows, unless a condition is broken
abbrev pub unless_broken : Option Refusal → Result State Refusal → Result State Refusal
unless_broken None next = next
unless_broken (Some refusal) next = Err refusal

-- the first of two refusals
abbrev pub or_next : Option Refusal → Option Refusal → Option Refusal
or_next (Some refusal) next = Some refusal
or_next None next = next
