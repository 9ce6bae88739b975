-- The limits of a state.
use Rattle.std.specs.Prelude.{◌≡◌, ◌≤◌, List, length, Option, Ok}
use Rattle.clp_model.specs.declared.predicate.Pred.{Pred}
use Rattle.clp_model.specs.Clauses.{Clause}
use Rattle.clause_model.specs.Load.{sizes_of}
use Rattle.map_model.specs.declared.step.Step.{Step}
use Rattle.map_model.specs.State.{State, live_entries, live_count, nodes_of, start_state}
use Rattle.map_model.specs.After.{after, run}

-- at most 4,096 clauses are live, and the sizes of all clauses made, the live ones among them, are at most 8,388,608
pub record IsWithinLimits (s : State) : Type 0 where
  pub few : live_count s ≤ 4096
  pub counted : nodes_of (live_entries s) ≤ s.nodes
  pub small : s.nodes ≤ 8388608

-- as many places as a program may have clauses, whose sizes are within the limit
abbrev pub StartIsWithinLimits : Type 0
StartIsWithinLimits = (clauses : List (Option Clause)) (preds : List Pred) → length clauses ≤ 4096 → sizes_of clauses ≤ 8388608 → IsWithinLimits (start_state clauses preds)

abbrev pub StepKeepsLimits : Type 0
StepKeepsLimits = (s t : State) (step : Step) → after s step ≡ Ok t → IsWithinLimits s → IsWithinLimits t

abbrev pub RunKeepsLimits : Type 0
RunKeepsLimits = (s t : State) (steps : List Step) → run s steps ≡ Ok t → IsWithinLimits s → IsWithinLimits t
