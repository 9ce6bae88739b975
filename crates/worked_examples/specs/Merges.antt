-- Examples of canonical forms and of merges.
use Rattle.std.specs.Prelude.{◌≡◌, ◌+◌, true, false, [], ◌∷◌, ◌++◌, codes, Some, Ok, Err}
use Rattle.clp_model.specs.declared.sort.Sort.TheVariants.{Any}
use Rattle.clp_model.specs.declared.tree.Tree.{Var, App}
use Rattle.clp_model.specs.Clauses.{Clause}
use Rattle.clp_model.specs.Canonical.{clause_size, clause_depth}
use Rattle.clause_model.specs.Canonical.{canonical_form}
use Rattle.map_model.specs.declared.step.Step.TheVariants.{Merge}
use Rattle.map_model.specs.declared.refusal.Refusal.TheVariants.{NoClause, NoAtom, RepeatedPosition, NotEqualAtoms}
use Rattle.map_model.specs.State.{State, live_clauses, live_ids_of}
use Rattle.map_model.specs.After.{after}
use Rattle.replay_model.specs.Replay.{output}
use Rattle.worked_examples.specs.Samples.{p, q, rule, start}

-- p(V5,V2) :- q(V2,V7).
abbrev pub scattered : Clause
scattered = rule (App p (Var 5 ∷ Var 2 ∷ [])) (App q (Var 2 ∷ Var 7 ∷ []) ∷ []) []

-- its canonical form is p(V1,V2) :- q(V2,V3)
abbrev pub CanonicalNumbers : Type 0
CanonicalNumbers =
    canonical_form scattered ≡ rule (App p (Var 1 ∷ Var 2 ∷ [])) (App q (Var 2 ∷ Var 3 ∷ []) ∷ []) (Any ∷ Any ∷ Any ∷ [])

-- two atoms with two arguments each are of size 6 and depth 2
abbrev pub SizeAndDepth : Type 0
SizeAndDepth = (clause_size scattered ≡ 6) × (clause_depth scattered ≡ 2)

-- p :- q, q.
abbrev pub repeated : Clause
repeated = rule (App p []) (App q [] ∷ App q [] ∷ []) []

-- p :- q.
abbrev pub single : Clause
single = rule (App p []) (App q [] ∷ []) []

-- p(V1,V2) :- q(V1), q(V2).
abbrev pub unequal : Clause
unequal = rule (App p (Var 1 ∷ Var 2 ∷ [])) (App q (Var 1 ∷ []) ∷ App q (Var 2 ∷ []) ∷ []) (Any ∷ Any ∷ [])

-- clause 1 is dead, clause 2 is p :- q, made from it, and both are counted
abbrev pub merged_state : State
merged_state =
    record {
      entries =
          Some (record { clause = repeated; mark = true; live = false; made_at = 0; parents = [] })
          ∷ Some (record { clause = single; mark = true; live = true; made_at = 1; parents = 1 ∷ [] })
          ∷ [];
      definitions = [];
      initials = record { name = p; arity = 0 } ∷ record { name = q; arity = 0 } ∷ [];
      steps = Merge 1 1 2 ∷ [];
      nodes = 3 + 2;
    }

-- `merge 1 at 1,2.` on p :- q, q
abbrev pub MergeGives : Type 0
MergeGives = after (start (repeated ∷ [])) (Merge 1 1 2) ≡ Ok merged_state

-- then p :- q is the program, and its id is 2
abbrev pub LiveAfterMerge : Type 0
LiveAfterMerge = (live_clauses merged_state ≡ single ∷ []) × (live_ids_of merged_state ≡ 2 ∷ [])

-- and this is written
abbrev pub PrintedAfterMerge : Type 0
PrintedAfterMerge = output merged_state ≡ codes "p :- q." ++ 10 ∷ []

-- `merge 2 at 1,2.` names no clause, and clause 1 none after the merge
abbrev pub MergeOfNoClause : Type 0
MergeOfNoClause = (after (start (repeated ∷ [])) (Merge 2 1 2) ≡ Err (NoClause 2)) × (after merged_state (Merge 1 1 2) ≡ Err (NoClause 1))

-- `merge 1 at 3,2.` and `merge 1 at 1,0.` name no atom
abbrev pub MergeOfNoAtom : Type 0
MergeOfNoAtom = (after (start (repeated ∷ [])) (Merge 1 3 2) ≡ Err (NoAtom 3)) × (after (start (repeated ∷ [])) (Merge 1 1 0) ≡ Err (NoAtom 0))

-- `merge 1 at 1,1.` names one atom twice
abbrev pub MergeOfOneAtom : Type 0
MergeOfOneAtom = after (start (repeated ∷ [])) (Merge 1 1 1) ≡ Err (RepeatedPosition 1)

-- q(V1) and q(V2) are not equal
abbrev pub MergeOfUnequalAtoms : Type 0
MergeOfUnequalAtoms = after (start (unequal ∷ [])) (Merge 1 1 2) ≡ Err (NotEqualAtoms 1 2)
