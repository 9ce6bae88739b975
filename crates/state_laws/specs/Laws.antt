-- The laws of states.
use Rattle.std.specs.Prelude.{◌≡◌, ◌↔◌, true, List, ◌++◌, map, Option, Some, Ok, All, Contains}
use Rattle.clp_model.specs.declared.predicate.Pred.{Pred}
use Rattle.clp_model.specs.Values.{GroundAtom}
use Rattle.clp_model.specs.Clauses.{Clause}
use Rattle.clp_model.specs.Predicates.{ground_predicate, program_predicates}
use Rattle.clp_model.specs.Proof.{Provable}
use Rattle.clause_model.specs.Canonical.{IsCanonical}
use Rattle.clause_model.specs.Load.{load_one, load, Program}
use Rattle.clause_laws.specs.Laws.{AllNum, AllStand}
use Rattle.rule_laws.specs.Steps.{IsHeld}
use Rattle.rule_laws.specs.Dropping.{IsKnown}
use Rattle.map_model.specs.declared.step.Step.{Step}
use Rattle.map_model.specs.State.{State, live_clauses, base_clauses, is_among, start_state}
use Rattle.map_model.specs.Defined.{definition_of, definitions_of}
use Rattle.map_model.specs.FormedSteps.{IsFormedStep}
use Rattle.map_model.specs.After.{after, run}
use Rattle.map_model.specs.WellFormed.{IsWellFormed, clauses_at}
use Rattle.state_laws.specs.KeptState.{loaded_clauses, IsKeptState}

abbrev pub LoadedClausesAreHeld : Type 0
LoadedClausesAreHeld = (c d : Clause) → IsWellFormed c → load_one c ≡ Ok (Some d) → IsHeld d × IsCanonical d

-- and so at each place of a loaded program, whose clauses speak of its predicates alone
abbrev pub LoadedProgramsAreHeld : Type 0
LoadedProgramsAreHeld =
    (source : List Clause) (p : Program) → All IsWellFormed source → load source ≡ Ok p
    → All IsHeld (clauses_at p.clauses) × All IsCanonical (clauses_at p.clauses) × All (IsKnown p.predicates) (clauses_at p.clauses)

abbrev pub StartStateIsKept : Type 0
StartStateIsKept =
    (clauses : List (Option Clause)) (predicates : List Pred) → All IsHeld (clauses_at clauses) → All IsCanonical (clauses_at clauses)
    → All (IsKnown predicates) (clauses_at clauses) → IsKeptState (start_state clauses predicates)

-- the clauses at the places are what is live in it and what its base is
abbrev pub StartStateHasItsClauses : Type 0
StartStateHasItsClauses = (clauses : List (Option Clause)) (predicates : List Pred) → (live_clauses (start_state clauses predicates) ≡ clauses_at clauses) × (base_clauses (start_state clauses predicates) ≡ clauses_at clauses)

-- ---- steps and runs
abbrev pub AcceptedStepKeepsState : Type 0
AcceptedStepKeepsState = (s t : State) (step : Step) → after s step ≡ Ok t → IsFormedStep step → IsKeptState s → IsKeptState t

abbrev pub AcceptedRunKeepsState : Type 0
AcceptedRunKeepsState = (s t : State) (steps : List Step) → run s steps ≡ Ok t → All IsFormedStep steps → IsKeptState s → IsKeptState t

-- From s to t the loaded clauses and the initial predicates stay, and the base and the definitions grow by canonical
-- clauses that have the same instances as the definitions that were written, in order.
pub record GrowsBy (written : List Clause) (s t : State) : Type 0 where
  pub initials : t.initials ≡ s.initials
  pub loaded : loaded_clauses t ≡ loaded_clauses s
  pub added : List Clause
  pub definitions : t.definitions ≡ s.definitions ++ added
  pub base : base_clauses t ≡ base_clauses s ++ added
  pub stand : AllStand (map Some added) written

abbrev pub AcceptedStepKeepsBase : Type 0
AcceptedStepKeepsBase = (s t : State) (step : Step) → after s step ≡ Ok t → IsFormedStep step → GrowsBy (definition_of step) s t

abbrev pub AcceptedRunKeepsBase : Type 0
AcceptedRunKeepsBase = (s t : State) (steps : List Step) → run s steps ≡ Ok t → All IsFormedStep steps → GrowsBy (definitions_of steps) s t

-- the steps that are kept in the history are formed, where those that are given are
abbrev pub AcceptedRunKeepsFormedSteps : Type 0
AcceptedRunKeepsFormedSteps = (s t : State) (steps : List Step) → run s steps ≡ Ok t → All IsFormedStep steps → All IsFormedStep s.steps → All IsFormedStep t.steps

-- ---- what is provable
abbrev pub LiveAndBaseProveTheSame : Type 0
LiveAndBaseProveTheSame = (s : State) → IsKeptState s → (a : GroundAtom) → Provable (live_clauses s) a ↔ Provable (base_clauses s) a

-- the definitions prove nothing of initial predicates
abbrev pub LiveAndLoadedProveTheSame : Type 0
LiveAndLoadedProveTheSame =
    (s : State) → IsKeptState s → (a : GroundAtom) → is_among s.initials (ground_predicate a) ≡ true
    → Provable (live_clauses s) a ↔ Provable (loaded_clauses s) a

abbrev pub RunKeepsProvability : Type 0
RunKeepsProvability =
    (clauses : List (Option Clause)) (predicates : List Pred) (steps : List Step) (t : State)
    → All IsHeld (clauses_at clauses) → All IsCanonical (clauses_at clauses) → All (IsKnown predicates) (clauses_at clauses)
    → run (start_state clauses predicates) steps ≡ Ok t → All IsFormedStep steps
    → (a : GroundAtom) → Provable (live_clauses t) a ↔ Provable (clauses_at clauses ++ definitions_of steps) a

-- so is the state after an accepted run of a loaded program: its live clauses are held and canonical
abbrev pub RunOfLoadedProgramIsKept : Type 0
RunOfLoadedProgramIsKept =
    (source : List Clause) (p : Program) (steps : List Step) (t : State) → All IsWellFormed source → load source ≡ Ok p
    → run (start_state p.clauses p.predicates) steps ≡ Ok t → All IsFormedStep steps → IsKeptState t

abbrev pub LoadingKeepsProvability : Type 0
LoadingKeepsProvability = (source : List Clause) (p : Program) → load source ≡ Ok p → AllNum source → (a : GroundAtom) → Provable (clauses_at p.clauses) a ↔ Provable source a

-- a well-formed program, once it is loaded and each step of a script is accepted, proves what its source proves with the
-- script's definitions
abbrev pub RunOfLoadedProgramKeepsProvability : Type 0
RunOfLoadedProgramKeepsProvability =
    (source : List Clause) (p : Program) (steps : List Step) (t : State) → All IsWellFormed source → load source ≡ Ok p
    → run (start_state p.clauses p.predicates) steps ≡ Ok t → All IsFormedStep steps
    → (a : GroundAtom) → Provable (live_clauses t) a ↔ Provable (source ++ definitions_of steps) a

-- and, of the predicates of the source, what the source proves alone
abbrev pub RunOfLoadedProgramKeepsItsPredicates : Type 0
RunOfLoadedProgramKeepsItsPredicates =
    (source : List Clause) (p : Program) (steps : List Step) (t : State) → All IsWellFormed source → load source ≡ Ok p
    → run (start_state p.clauses p.predicates) steps ≡ Ok t → All IsFormedStep steps
    → (a : GroundAtom) → Contains (program_predicates source) (ground_predicate a) → Provable (live_clauses t) a ↔ Provable source a
