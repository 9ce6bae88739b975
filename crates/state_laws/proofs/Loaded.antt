-- The clauses of a loaded program are held, and prove what their source proves.
use Rattle.std.proofs.Common.{◌≡◌, ◌↔◌, ℕ, suc, ◌+◌, List, [], ◌∷◌, ◌++◌, refl, sym, ◌∙◌, ap, subst, Bool, true, false}
use Rattle.std.specs.Prelude.{nat_lt, if◌then◌else◌, Option, Some, None, Result, Ok, Err, All, Contains}
use Rattle.std.proofs.lemmas.List.{append_assoc, append-nil}
use Rattle.clp_model.specs.declared.predicate.Pred.{Pred}
use Rattle.clp_model.specs.declared.limit.Limit.TheVariants.{Nodes}
use Rattle.clp_model.specs.Values.{GroundAtom}
use Rattle.clp_model.specs.Clauses.{Clause}
use Rattle.clp_model.specs.Canonical.{clause_size}
use Rattle.clp_model.specs.Predicates.{initial_predicates, program_predicates, ground_predicate}
use Rattle.clp_model.specs.Proof.{Provable}
use Rattle.clp_model.proofs.Membership.{Among, first, next, to_among}
use Rattle.unify_laws.proofs.Solved.{among_cases}
use Rattle.clause_model.specs.Canonical.{Refusal, TooLarge, IsCanonical}
use Rattle.clause_model.specs.Load.{load_one, Program, Refused, counted, loaded_after, with_predicates, load}
use Rattle.clause_laws.specs.Laws.{AllNum}
use Rattle.clause_laws.proofs.Loading.{loading_keeps}
use Rattle.clause_laws.proofs.Rows.{all_each, each_all}
use Rattle.rule_laws.specs.Steps.{IsHeld}
use Rattle.rule_laws.specs.Dropping.{IsKnown}
use Rattle.map_model.specs.declared.step.Step.{Step}
use Rattle.map_model.specs.State.{State, live_clauses, is_among, start_state}
use Rattle.map_model.specs.Defined.{definitions_of}
use Rattle.map_model.specs.FormedSteps.{IsFormedStep}
use Rattle.map_model.specs.After.{run}
use Rattle.map_model.specs.WellFormed.{IsWellFormed, clauses_at}
use Rattle.state_laws.specs.KeptState.{loaded_clauses, IsKeptState}
use Rattle.state_laws.specs.Laws.{LoadedProgramsAreHeld, GrowsBy, RunOfLoadedProgramIsKept, LoadingKeepsProvability, RunOfLoadedProgramKeepsProvability, RunOfLoadedProgramKeepsItsPredicates}
use Rattle.state_laws.proofs.Predicates.{initial_has, of_clause}
use Rattle.state_laws.proofs.Known.{speaks_known, own_predicates, loaded_speaks}
use Rattle.state_laws.proofs.Held.{loaded_is_held}
use Rattle.state_laws.proofs.Standing.{standing_proves}
use Rattle.state_laws.proofs.Running.{run_keeps_state, run_keeps_base}
use Rattle.state_laws.proofs.Initial.{live_and_loaded}
use Rattle.state_laws.proofs.Starting.{loaded_are, start_is_kept, live_proves}

-- ---- each place is what its source clause is loaded as
abbrev AllLoaded : List (Option Clause) → List Clause → Type 0
AllLoaded [] [] = Unit {0}
AllLoaded [] (c ∷ cs) = ⊥
AllLoaded (d ∷ ds) [] = ⊥
AllLoaded (d ∷ ds) (c ∷ cs) = (load_one c ≡ Ok d) × AllLoaded ds cs

list_is : {x y : List (Option Clause)} → ◌≡◌ {A = Result (List (Option Clause)) Refused} (Ok x) (Ok y) → x ≡ y
list_is {x} e = let out : Result (List (Option Clause)) Refused → List (Option Clause) = elim [ Ok z ↦ z | Err r ↦ x ] in ap out e

abbrev Makes : List (Option Clause) → List (Option Clause) → List Clause → Type 0
Makes found made source = (rest : List (Option Clause)) × (made ≡ found ++ rest) × AllLoaded rest source

made_first : (c : Clause) (cs : List Clause) (place : ℕ) (found : List (Option Clause)) (nodes : ℕ) (made : List (Option Clause))
    → ((d : Option Clause) (more : ℕ) → loaded_after (suc place) (found ++ d ∷ []) more cs ≡ Ok made → Makes (found ++ d ∷ []) made cs)
    → loaded_after place found nodes (c ∷ cs) ≡ Ok made → Makes found made (c ∷ cs)
made_first c cs place found nodes made again e = by (load_one c) refl e
  where
    onward : (d : Option Clause) → load_one c ≡ Ok d → Makes (found ++ d ∷ []) made cs → Makes found made (c ∷ cs)
    onward d s m = (d ∷ m.0, m.1 ∙ append_assoc found (d ∷ []) m.0, (s, m.2))

    within : (d : Clause) → load_one c ≡ Ok (Some d) → (b : Bool) → (if b then Err (place, TooLarge Nodes) else loaded_after (suc place) (found ++ Some d ∷ []) (nodes + clause_size d) cs) ≡ Ok made → Makes found made (c ∷ cs)
    within d q true k = absurd (cc)
    within d q false k = onward (Some d) q (again (Some d) (nodes + clause_size d) k)

    by : (o : Result (Option Clause) Refusal) → load_one c ≡ o → counted place nodes (λ d more. loaded_after (suc place) (found ++ d ∷ []) more cs) o ≡ Ok made → Makes found made (c ∷ cs)
    by (Err r) q h = absurd (cc)
    by (Ok None) q h = onward None q (again None nodes h)
    by (Ok (Some d)) q h = within d q (nat_lt 8388608 (nodes + clause_size d)) h

all_made : (source : List Clause) (place : ℕ) (found : List (Option Clause)) (nodes : ℕ) (made : List (Option Clause)) → loaded_after place found nodes source ≡ Ok made → Makes found made source
all_made [] place found nodes made e = ([], sym (list_is e) ∙ sym (append-nil found), tt)
all_made (c ∷ cs) place found nodes made e = made_first c cs place found nodes made (λ d more. all_made cs (suc place) (found ++ d ∷ []) more made) e

all_loaded : (source : List Clause) (p : Program) → load source ≡ Ok p → AllLoaded p.clauses source
unfolding load
all_loaded source p e = by (loaded_after 1 [] 0 source) refl e
  where
    clauses_of : {ps : List Pred} {cs : List (Option Clause)} → ◌≡◌ {A = Result Program Refused} (Ok (record { clauses = cs; predicates = ps })) (Ok p) → cs ≡ p.clauses
    clauses_of {ps} {cs} h = let out : Result Program Refused → List (Option Clause) = elim [ Ok q ↦ q.clauses | Err r ↦ cs ] in ap out h

    by : (o : Result (List (Option Clause)) Refused) → loaded_after 1 [] 0 source ≡ o → with_predicates (initial_predicates source) o ≡ Ok p → AllLoaded p.clauses source
    by (Err r) q h = absurd (cc)
    by (Ok made) q h = let m = all_made source 1 [] 0 made q in subst (λ cs. AllLoaded cs source) (sym m.1 ∙ clauses_of h) m.2

-- a clause at a place, and its source clause
source_of : (ds : List (Option Clause)) (cs : List Clause) → AllLoaded ds cs → (d : Clause) → Among d (clauses_at ds) → (c : Clause) × Among c cs × (load_one c ≡ Ok (Some d))
source_of [] [] h d a = elim a [ ]
source_of [] (c ∷ cs) h d a = absurd h
source_of (x ∷ ds) [] h d a = absurd h
source_of (None ∷ ds) (c ∷ cs) h d a = let w = source_of ds cs h.1 d a in (w.0, next w.1, w.2)
source_of (Some x ∷ ds) (c ∷ cs) h d a = among_cases a
    (λ q. (c, first, h.0 ∙ ap (λ y. Ok (Some y)) (sym q)))
    (λ m. let w = source_of ds cs h.1 d m in (w.0, next w.1, w.2))

-- the predicates of a loaded program are those of its source
predicates_of : (source : List Clause) (p : Program) → load source ≡ Ok p → p.predicates ≡ initial_predicates source
unfolding load
predicates_of source p e = by (loaded_after 1 [] 0 source) e
  where
    predicates_are : {ps : List Pred} {cs : List (Option Clause)} → ◌≡◌ {A = Result Program Refused} (Ok (record { clauses = cs; predicates = ps })) (Ok p) → p.predicates ≡ ps
    predicates_are {ps} {cs} h = let out : Result Program Refused → List Pred = elim [ Ok q ↦ q.predicates | Err r ↦ ps ] in sym (ap out h)

    by : (o : Result (List (Option Clause)) Refused) → with_predicates (initial_predicates source) o ≡ Ok p → p.predicates ≡ initial_predicates source
    by (Err r) h = absurd (cc)
    by (Ok made) h = predicates_are h

pub loaded_program_is_held : LoadedProgramsAreHeld
loaded_program_is_held source p formed e =
    let each : (d : Clause) → Among d (clauses_at p.clauses) → IsHeld d × IsCanonical d × IsKnown p.predicates d =
    λ d a.
    let w = source_of p.clauses source (all_loaded source p e) d a in
    let well = all_each IsWellFormed source formed w.0 w.1 in
    let held = loaded_is_held w.0 d well w.2 in
    let ps = initial_predicates source in
    let speaks = loaded_speaks ps w.0 d well w.2 (own_predicates ps w.0 (λ q m. initial_has source q (of_clause source w.0 q w.1 m))) in
    (held.0, held.1, subst (λ qs. IsKnown qs d) (sym (predicates_of source p e)) (speaks_known ps d speaks)) in (
      each_all IsHeld (clauses_at p.clauses) (λ d a. (each d a).0),
      each_all IsCanonical (clauses_at p.clauses) (λ d a. (each d a).1),
      each_all (IsKnown p.predicates) (clauses_at p.clauses) (λ d a. (each d a).2),
    )

-- ---- what is provable
pub loading_keeps_provable : LoadingKeepsProvability
loading_keeps_provable source p e nums a = standing_proves p.clauses source (loading_keeps source p nums e) a

all_num : (source : List Clause) → ((c : Clause) → Among c source → IsWellFormed c) → AllNum source
all_num [] h = tt
all_num (c ∷ cs) h = ((h c first).nums, all_num cs (λ d m. h d (next m)))

-- an accepted run of formed steps of a loaded program
module _ (source : List Clause) (p : Program) (steps : List Step) (t : State) (formed : All IsWellFormed source) (e : load source ≡ Ok p) (h : run (start_state p.clauses p.predicates) steps ≡ Ok t) (steps_formed : All IsFormedStep steps) where
  abbrev s : State
  s = start_state p.clauses p.predicates

  run_is_kept : IsKeptState t
  run_is_kept = let held = loaded_program_is_held source p formed e in run_keeps_state s t steps h steps_formed (start_is_kept p.clauses p.predicates held.0 held.1 held.2)

  grows : GrowsBy (definitions_of steps) s t
  grows = run_keeps_base s t steps h steps_formed

  nums : AllNum source
  nums = all_num source (all_each IsWellFormed source formed)

  run_proves : (a : GroundAtom) → Provable (live_clauses t) a ↔ Provable (source ++ definitions_of steps) a
  run_proves = live_proves p.clauses p.predicates steps t run_is_kept grows p.clauses source refl (loading_keeps source p nums e)

  run_proves_alone : (a : GroundAtom) → Contains (program_predicates source) (ground_predicate a) → Provable (live_clauses t) a ↔ Provable source a
  run_proves_alone a inside =
      let initial : is_among t.initials (ground_predicate a) ≡ true =
      subst (λ ps. is_among ps (ground_predicate a) ≡ true) (sym (grows.initials ∙ predicates_of source p e))
      (initial_has source (ground_predicate a) (to_among (program_predicates source) (ground_predicate a) inside)) in
      let live = live_and_loaded t run_is_kept a initial in
      let loaded : loaded_clauses t ≡ clauses_at p.clauses = grows.loaded ∙ loaded_are p.clauses p.predicates in
      let load = loading_keeps_provable source p e nums a in (
        λ q. load.0 (subst (λ xs. Provable xs a) loaded (live.0 q)),
        λ q. live.1 (subst (λ xs. Provable xs a) (sym loaded) (load.1 q)),
      )

pub loaded_run_is_kept : RunOfLoadedProgramIsKept
loaded_run_is_kept source p steps t formed e h steps_formed = run_is_kept source p steps t formed e h steps_formed

pub loaded_run_keeps : RunOfLoadedProgramKeepsProvability
loaded_run_keeps source p steps t formed e h steps_formed = run_proves source p steps t formed e h steps_formed

pub loaded_run_keeps_predicates : RunOfLoadedProgramKeepsItsPredicates
loaded_run_keeps_predicates source p steps t formed e h steps_formed = run_proves_alone source p steps t formed e h steps_formed
