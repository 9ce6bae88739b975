-- Examples of unfolding.
use Rattle.std.specs.Prelude.{◌≡◌, ◌+◌, true, false, [], ◌∷◌, ◌++◌, codes, Some, Ok}
use Rattle.clp_model.specs.declared.tree.Tree.{App}
use Rattle.clp_model.specs.Clauses.{Clause}
use Rattle.map_model.specs.declared.step.Step.TheVariants.{Unfold}
use Rattle.map_model.specs.State.{State, live_clauses, live_ids_of}
use Rattle.map_model.specs.After.{after}
use Rattle.replay_model.specs.Replay.{output}
use Rattle.worked_examples.specs.Samples.{p, q, r, rule, start}

-- p :- q.
abbrev pub calling : Clause
calling = rule (App p []) (App q [] ∷ []) []

-- r.
abbrev pub unrelated : Clause
unrelated = rule (App r []) [] []

-- clause 1 is dead, and nothing has come in its place
abbrev pub removed_state : State
removed_state =
    record {
      entries =
          Some (record { clause = calling; mark = true; live = false; made_at = 0; parents = [] })
          ∷ Some (record { clause = unrelated; mark = true; live = true; made_at = 0; parents = [] })
          ∷ [];
      definitions = [];
      initials = record { name = p; arity = 0 } ∷ record { name = q; arity = 0 } ∷ record { name = r; arity = 0 } ∷ [];
      steps = Unfold 1 1 ∷ [];
      nodes = 2 + 1;
    }

-- `unfold 1 at 1.` on p :- q and r: no head is q, so that the clause has no resolvent
abbrev pub UnfoldWithoutResolvent : Type 0
UnfoldWithoutResolvent = after (start (calling ∷ unrelated ∷ [])) (Unfold 1 1) ≡ Ok removed_state

-- then r alone is the program
abbrev pub LiveWithoutResolvent : Type 0
LiveWithoutResolvent = (live_clauses removed_state ≡ unrelated ∷ []) × (live_ids_of removed_state ≡ 2 ∷ [])

-- and this is written
abbrev pub PrintedWithoutResolvent : Type 0
PrintedWithoutResolvent = output removed_state ≡ codes "r." ++ 10 ∷ []

-- p :- p.
abbrev pub recursive : Clause
recursive = rule (App p []) (App p [] ∷ []) []

-- p.
abbrev pub unit : Clause
unit = rule (App p []) [] []

-- clause 1 is dead; clause 3 is its resolvent with itself, and clause 4 that with clause 2
abbrev pub resolved_state : State
resolved_state =
    record {
      entries =
          Some (record { clause = recursive; mark = true; live = false; made_at = 0; parents = [] })
          ∷ Some (record { clause = unit; mark = true; live = true; made_at = 0; parents = [] })
          ∷ Some (record { clause = recursive; mark = true; live = true; made_at = 1; parents = 1 ∷ 1 ∷ [] })
          ∷ Some (record { clause = unit; mark = true; live = true; made_at = 1; parents = 1 ∷ 2 ∷ [] })
          ∷ [];
      definitions = [];
      initials = record { name = p; arity = 0 } ∷ [];
      steps = Unfold 1 1 ∷ [];
      nodes = 3 + 3;
    }

-- `unfold 1 at 1.` on p :- p and p: the clause is unfolded with itself, too
abbrev pub UnfoldWithItself : Type 0
UnfoldWithItself = after (start (recursive ∷ unit ∷ [])) (Unfold 1 1) ≡ Ok resolved_state

-- then p, p :- p and p again are the program, with the ids 2, 3 and 4
abbrev pub LiveAfterUnfold : Type 0
LiveAfterUnfold = (live_clauses resolved_state ≡ unit ∷ recursive ∷ unit ∷ []) × (live_ids_of resolved_state ≡ 2 ∷ 3 ∷ 4 ∷ [])

-- and this is written
abbrev pub PrintedAfterUnfold : Type 0
PrintedAfterUnfold = output resolved_state ≡ codes "p." ++ 10 ∷ codes "p :- p." ++ 10 ∷ codes "p." ++ 10 ∷ []
