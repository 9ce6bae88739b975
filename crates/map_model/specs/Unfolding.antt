-- unfold C at I: a clause gives way to its resolvents, at an atom of its body, with all live clauses.
use Rattle.std.specs.Prelude.{ℕ, suc, ◌-◌, true, List, [], ◌∷◌, ◌++◌, length, Option, Some, None, Result, Err, if◌then◌else◌}
use Rattle.clp_model.specs.Clauses.{Clause}
use Rattle.unfold_model.specs.Resolvent.{resolvent}
use Rattle.map_model.specs.declared.step.Step.TheVariants.{Unfold}
use Rattle.map_model.specs.declared.refusal.Refusal.{Refusal}
use Rattle.map_model.specs.declared.refusal.Refusal.TheVariants.{NoClause, NoAtom}
use Rattle.map_model.specs.State.{Entry, State, live_at}
use Rattle.map_model.specs.Rewriting.{Draft, rewritten}
use Rattle.fold_model.specs.Positions.{in_range}

-- a resolvent of the clause `id` with the clause `by`, marked, if there is one
abbrev pub drafted : ℕ → ℕ → Option Clause → List Draft
drafted id by None = []
drafted id by (Some d) = record { clause = d; mark = true; parents = id ∷ by ∷ [] } ∷ []

-- the resolvent of the clause c with an entry's, if this is live
abbrev pub resolvent_with : ℕ → Clause → ℕ → ℕ → Entry → List Draft
resolvent_with id c i by e = if e.live then drafted id by (resolvent c i e.clause) else []

-- the resolvents, at place i counted from 0, of the clause c with the live ones of these entries, of which the first
-- has the id `by`, in rising order
abbrev pub resolvents_from : ℕ → Clause → ℕ → ℕ → List (Option Entry) → List Draft
resolvents_from id c i by [] = []
resolvents_from id c i by (None ∷ entries) = resolvents_from id c i (suc by) entries
resolvents_from id c i by (Some e ∷ entries) = resolvent_with id c i by e ++ resolvents_from id c i (suc by) entries

-- the resolvents with all live clauses, the clause itself among them
abbrev pub resolvents : State → ℕ → Clause → ℕ → List Draft
resolvents s id c at = resolvents_from id c (at - 1) 1 s.entries

-- an unfolding of the clause of this entry, if there is a live one with this id
abbrev pub unfold_of : State → ℕ → ℕ → Option Entry → Result State Refusal
unfold_of s id at None = Err (NoClause id)
unfold_of s id at (Some e) =
    if in_range (length e.clause.body) at
    then rewritten s (record { dead = id ∷ []; made = resolvents s id e.clause at; defines = None; step = Unfold id at })
    else Err (NoAtom at)

-- the state after `unfold C at I`, or its first broken condition
abbrev pub unfold_after : State → ℕ → ℕ → Result State Refusal
unfold_after s id at = unfold_of s id at (live_at s id)
