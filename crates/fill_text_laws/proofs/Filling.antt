-- The text of a replay's history is its script with the certificates written out.
use Rattle.std.proofs.Common.{◌≡◌, ◌<◌, ◌^◌, ℕ, true, List, [], ◌∷◌, map, length, arith, refl, sym, ◌∙◌, ap, subst}
use Rattle.std.specs.Prelude.{Result, Ok, Err, All}
use Rattle.std.specs.Str.{is_utf8}
use Rattle.std.proofs.lemmas.List.Elements.{All-nil, All-cons, All-head, All-tail}
use Rattle.token_model.specs.declared.fault.Fault.{Fault}
use Rattle.text_fault.specs.Places.{located}
use Rattle.clause_model.specs.Load.{Program, Refused, load}
use Rattle.clause_store.specs.declared.source.SourceClause.{SourceClause}
use Rattle.clause_store.specs.Source.{meaning_of}
use Rattle.clp_grammar.specs.Grammar.{program}
use Rattle.map_model.specs.declared.step.Step.{Step}
use Rattle.map_model.specs.declared.refusal.Refusal.{Refusal}
use Rattle.map_model.specs.State.{State}
use Rattle.map_model.specs.FormedSteps.{IsFormedStep}
use Rattle.map_model.specs.After.{run}
use Rattle.fill_laws.proofs.Filled.{filled_script}
use Rattle.standing_model.specs.Names.{is_short, is_ordinary}
use Rattle.name_laws.specs.Names.{IsStepOver}
use Rattle.read_name_laws.specs.Steps.{IsStepOf}
use Rattle.read_name_laws.specs.Laws.{HasTextNames}
use Rattle.read_name_laws.proofs.Scripts.{scripts}
use Rattle.read_name_laws.proofs.Steps.{steps_formed, steps_over}
use Rattle.script_grammar.specs.Script.{script}
use Rattle.script_grammar.specs.ScriptText.{script_text, IsInRange, IsScript}
use Rattle.replay_model.specs.declared.replay_fault.ReplayFault.{ReplayFault}
use Rattle.replay_model.specs.Replay.{started, loaded, opened, unless_refused, carried_out, scripted, then_scripted, replayed}
use Rattle.script_laws.specs.Laws.{IsPrintableStep}
use Rattle.script_laws.proofs.ReadSteps.{script_is}
use Rattle.script_laws.proofs.Scripts.{scripts_are_read_again}
use Rattle.fill_text_laws.specs.Laws.{IsReadStep, ReplayedStepsAreAScript, ReplayIsFilled}
use Rattle.fill_text_laws.proofs.Histories.{run_keeps_script, run_printable}

state_is : {E : Type 0} {s t : State} → ◌≡◌ {A = Result State E} (Ok s) (Ok t) → s ≡ t
state_is {E} {s} h = let out : Result State E → State = elim [ Ok u ↦ u | Err x ↦ s ] in ap out h

-- ---- the parts of a replay
-- a start state has no history
starts_empty : (p : List ℕ) (s : State) → opened p ≡ Ok s → s.steps ≡ []
starts_empty p s h = by_text (program p) h
  where
    by_load : (o : Result Program Refused) → started o ≡ Ok s → s.steps ≡ []
    by_load (Ok q) e = sym (ap (λ (u : State). u.steps) (state_is e))
    by_load (Err refused) e = absurd (cc)

    by_text : (o : Result (List SourceClause) Fault) → loaded (located (length p) o) ≡ Ok s → s.steps ≡ []
    by_text (Ok source) e = by_load (load (map meaning_of source)) e
    by_text (Err f) e = absurd (cc)

-- the steps that were read make the state
record Reads (s : State) (text : List ℕ) (t : State) : Type 0 where
  steps : List Step
  read : script text ≡ Ok steps
  runs : run s steps ≡ Ok t

reads : (s : State) (text : List ℕ) (t : State) → scripted s text ≡ Ok t → Reads s text t
reads s text t h = by_text (script text) refl h
  where
    by_run : (steps : List Step) → script text ≡ Ok steps → (o : Result State (ℕ × Refusal)) → run s steps ≡ o → unless_refused o ≡ Ok t → Reads s text t
    by_run steps e (Ok u) q k = record { steps = steps; read = e; runs = q ∙ ap Ok (state_is k) }
    by_run steps e (Err refused) q k = absurd (cc)

    by_text : (o : Result (List Step) Fault) → script text ≡ o → carried_out s (located (length text) o) ≡ Ok t → Reads s text t
    by_text (Ok steps) e k = by_run steps e (run s steps) refl k
    by_text (Err f) e k = absurd (cc)

-- the replay from its start state
record Replays (p s : List ℕ) (t : State) : Type 0 where
  start : State
  opens : opened p ≡ Ok start
  ends : scripted start s ≡ Ok t

replays : (p s : List ℕ) (t : State) → replayed p s ≡ Ok t → Replays p s t
replays p s t h = by (opened p) refl h
  where
    by : (o : Result State ReplayFault) → opened p ≡ o → then_scripted s o ≡ Ok t → Replays p s t
    by (Ok start) e k = record { start = start; opens = e; ends = k }
    by (Err f) e k = absurd (cc)

-- a text that reads as steps of which the start state makes t is replayed to t
replayed_again : (p w : List ℕ) (start t : State) (steps : List Step) → opened p ≡ Ok start → script w ≡ Ok steps → run start steps ≡ Ok t → replayed p w ≡ Ok t
replayed_again p w start t steps opens read runs =
    ap (then_scripted w) opens ∙ (ap (λ o. carried_out start (located (length w) o)) read ∙ ap unless_refused runs)

-- ---- the laws
empty_script : IsScript []
empty_script = record { few = omega arith; in_range = All-nil IsInRange }

abbrev IsNamed : Step → Type 0
IsNamed step = IsStepOf HasTextNames (λ _. Unit {0}) (λ name. is_utf8 name ≡ true) step

all_read : (steps : List Step) → All IsFormedStep steps → All (IsStepOver is_short is_ordinary) steps → All IsNamed steps → All IsReadStep steps
all_read [] formed over named = All-nil IsReadStep
all_read (step ∷ steps) formed over named =
    All-cons IsReadStep step steps
    (record {
      formed = All-head IsFormedStep step steps formed;
      over = All-head (IsStepOver is_short is_ordinary) step steps over;
      named = All-head IsNamed step steps named;
    })
    (all_read steps (All-tail IsFormedStep step steps formed) (All-tail (IsStepOver is_short is_ordinary) step steps over) (All-tail IsNamed step steps named))

history_is_script : (p s : List ℕ) (t : State) → length s < 2 ^ 32 → Replays p s t → IsScript t.steps × All IsPrintableStep t.steps
history_is_script p s t short r =
    let k = reads r.start s t r.ends in
    let none = sym (starts_empty p r.start r.opens) in
    let read = all_read k.steps (steps_formed s k.steps short k.read) (steps_over s k.steps short k.read).0 (scripts s k.steps k.read) in (
      run_keeps_script r.start t k.steps k.runs (script_is s k.steps k.read).in_range (subst IsScript none empty_script),
      run_printable r.start t k.steps k.runs read (subst (All IsPrintableStep) none (All-nil IsPrintableStep)),
    )

pub replayed_script : ReplayedStepsAreAScript
replayed_script p s t short h = history_is_script p s t short (replays p s t h)

pub fills_script : ReplayIsFilled
fills_script p s t short h =
    let r = replays p s t h in
    let k = reads r.start s t r.ends in
    let history = history_is_script p s t short r in
    let read = scripts_are_read_again t.steps history.0 history.1 in
    record {
      start = r.start;
      opens = r.opens;
      end = t;
      ends = r.ends;
      reads = read;
      replays = replayed_again p (script_text t.steps) r.start t t.steps r.opens read (filled_script r.start t k.steps (starts_empty p r.start r.opens) k.runs);
    }
