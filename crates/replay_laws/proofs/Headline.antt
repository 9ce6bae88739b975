-- The headline: whatever replay accepts, the program that it writes proves what the input program proves.
use Rattle.std.proofs.Common.{◌≡◌, ℕ, ◌<◌, List, length, refl, ◌∙◌, ap, map, ◌^◌}
use Rattle.std.specs.Prelude.{Result, Ok, Err}
use Rattle.text_fault.specs.Places.{located, placed}
use Rattle.token_model.specs.declared.fault.Fault.{Fault}
use Rattle.clause_model.specs.Load.{Program, Refused, load}
use Rattle.clause_store.specs.declared.source.SourceClause.{SourceClause}
use Rattle.clause_store.specs.Source.{meaning_of}
use Rattle.clp_grammar.specs.Grammar.{program}
use Rattle.grammar_laws.proofs.Programs.{programs}
use Rattle.read_name_laws.proofs.Programs.{programs as text_names}
use Rattle.read_name_laws.proofs.Steps.{steps_formed, steps_over}
use Rattle.script_grammar.specs.Script.{script}
use Rattle.map_model.specs.declared.step.Step.{Step}
use Rattle.map_model.specs.declared.refusal.Refusal.{Refusal}
use Rattle.map_model.specs.State.{State, start_state}
use Rattle.map_model.specs.After.{run}
use Rattle.replay_model.specs.declared.replay_fault.ReplayFault.{ReplayFault}
use Rattle.replay_model.specs.declared.replay_fault.ReplayFault.TheVariants as fault
use Rattle.replay_model.specs.Replay.{fault_of, started, loaded, unless_refused, carried_out, then_scripted, replayed, output}
use Rattle.replay_model.specs.Headline.{KeepsProvability}
use Rattle.replay_laws.proofs.Written.{is_written}

-- ---- what replay went through

ok_state : (s t : State) → ◌≡◌ {A = Result State ReplayFault} (Ok s) (Ok t) → s ≡ t
ok_state s t e = cc

err_state : (f : ReplayFault) (t : State) → ◌≡◌ {A = Result State ReplayFault} (Err f) (Ok t) → ⊥
err_state f t e = cc

-- the parts of an accepted replay
record Replay (p s : List ℕ) (t : State) : Type 0 where
  source : List SourceClause
  source_is : program p ≡ Ok source
  loaded : Program
  loads : load (map meaning_of source) ≡ Ok loaded
  steps : List Step
  steps_are : script s ≡ Ok steps
  runs : run (start_state loaded.clauses loaded.predicates) steps ≡ Ok t

module _ (p s : List ℕ) (t : State) where
  by_run : (source : List SourceClause) → program p ≡ Ok source → (q : Program) → load (map meaning_of source) ≡ Ok q → (steps : List Step) → script s ≡ Ok steps
      → (r : Result State (ℕ × Refusal)) → run (start_state q.clauses q.predicates) steps ≡ r → unless_refused r ≡ Ok t → Replay p s t
  by_run source e q l steps es (Err x) er h = absurd (err_state (fault.Refused x.0 x.1) t h)
  by_run source e q l steps es (Ok u) er h =
      record { source = source; source_is = e; loaded = q; loads = l; steps = steps; steps_are = es; runs = er ∙ ap Ok (ok_state u t h) }

  by_script : (source : List SourceClause) → program p ≡ Ok source → (q : Program) → load (map meaning_of source) ≡ Ok q
      → (r : Result (List Step) Fault) → script s ≡ r → carried_out (start_state q.clauses q.predicates) (located (length s) r) ≡ Ok t → Replay p s t
  by_script source e q l (Err f) es h = absurd (err_state (fault.Script (placed (length s) f)) t h)
  by_script source e q l (Ok steps) es h = by_run source e q l steps es (run (start_state q.clauses q.predicates) steps) refl h

  by_load : (source : List SourceClause) → program p ≡ Ok source → (r : Result Program Refused) → load (map meaning_of source) ≡ r → then_scripted s (started r) ≡ Ok t → Replay p s t
  by_load source e (Err l) el h = absurd (err_state (fault.Load (fault_of l.0 l.1)) t h)
  by_load source e (Ok q) el h = by_script source e q el (script s) refl h

  by_program : (r : Result (List SourceClause) Fault) → program p ≡ r → then_scripted s (loaded (located (length p) r)) ≡ Ok t → Replay p s t
  by_program (Err f) e h = absurd (err_state (fault.Program (placed (length p) f)) t h)
  by_program (Ok source) e h = by_load source e (load (map meaning_of source)) refl h

  replay_parts : replayed p s ≡ Ok t → Replay p s t
  replay_parts h = by_program (program p) refl h

-- ---- the headline

pub keeps_provability : (p s : List ℕ) (t : State) → length p < 2 ^ 32 → length s < 2 ^ 32 → replayed p s ≡ Ok t → KeepsProvability p s (output t)
keeps_provability p s t small_program small_script h =
    let r = replay_parts p s t h in
    let read = programs p r.source small_program r.source_is in
    let texts = text_names p r.source r.source_is in
    let formed = steps_formed s r.steps small_script r.steps_are in
    let over = steps_over s r.steps small_script r.steps_are in
    let written = is_written r.source read.0 texts read.1 r.loaded r.loads r.steps formed over.0 over.1 t r.runs in
    record {
      source = r.source;
      source_is = r.source_is;
      steps = r.steps;
      steps_are = r.steps_are;
      result = written.result;
      result_is = written.result_is;
      loaded = written.loaded;
      loads = written.loads;
      initial = written.initial;
      defined = λ a inside. written.all a;
    }
