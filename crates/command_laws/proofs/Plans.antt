-- Where the plan of a script on a program leads.
use Rattle.std.proofs.Common.{◌≡◌, ℕ, ◌⊎◌, inl, inr, List, length, map, refl, ap, subst, ◌∙◌, true}
use Rattle.std.specs.Prelude.{Option, Some, None, Result, Ok, Err}
use Rattle.text_fault.specs.declared.fault.TextFault.{TextFault}
use Rattle.text_fault.specs.Places.{located}
use Rattle.clause_loader.specs.declared.program.LoadFault.{LoadFault}
use Rattle.clause_store.specs.Source.{meaning_of}
use Rattle.clp_grammar.specs.Grammar.{program}
use Rattle.script_grammar.specs.Script.{script}
use Rattle.map_model.specs.After.{run}
use Rattle.clause_model.specs.Load.{Program, Refused, load}
use Rattle.clause_store.specs.declared.source.SourceClause.{SourceClause}
use Rattle.map_base.specs.Outside.{Files, TellsLonger}
use Rattle.map_model.specs.declared.refusal.Refusal.{Refusal}
use Rattle.map_model.specs.declared.step.Step.{Step}
use Rattle.map_model.specs.State.{State}
use Rattle.replay_model.specs.declared.replay_fault.ReplayFault.{ReplayFault}
use Rattle.replay_model.specs.declared.replay_fault.ReplayFault.TheVariants as fault
use Rattle.replay_model.specs.Replay.{fault_of, started, loaded, opened, unless_refused, carried_out, scripted, then_scripted, output}
use Rattle.command_model.specs.declared.status.Status.{Status}
use Rattle.command_model.specs.declared.status.Status.TheVariants as status
use Rattle.command_model.specs.Command.{Command, Replay, Fill, command_of}
use Rattle.status_lines.specs.Lines.{max_program, max_script, long_program_line, long_script_line, fault_line, refused_line}
use Rattle.command_model.specs.Lines.{usage_line, fault_status}
use Rattle.command_model.specs.Plan.{after_script, after_program, script_on_program, filled, plan_of, plan}
use Rattle.command_model.specs.Causes.{Gives, LeadsTo, Awaits, is_said}
use Rattle.command_laws.specs.Ends.{IsAccepted, Opens, IsRefused, IsBadProgram, IsBadScript}

-- ---- where a script on a program ends

-- how it came to its end
data Way (text_of : State → List ℕ) (files : Option Files) (program script : List ℕ) (s : Status) (text : List ℕ) : Type 0 where
  long_program : TellsLonger files program max_program → s ≡ status.BadProgram → text ≡ long_program_line → Way text_of files program script s text
  bad_program : (bytes : List ℕ) → Gives files program max_program bytes → (f : ReplayFault) → opened bytes ≡ Err f → s ≡ fault_status f → text ≡ fault_line f → Way text_of files program script s text
  long_script : (start : State) → Opens files program script start → TellsLonger files script max_script → s ≡ status.BadScript → text ≡ long_script_line → Way text_of files program script s text
  bad_script : (start : State) → Opens files program script start → (bytes : List ℕ) → Gives files script max_script bytes → (f : ReplayFault) → scripted start bytes ≡ Err f
      → s ≡ fault_status f → text ≡ fault_line f → Way text_of files program script s text
  accepted : (end : State) → IsAccepted files program script end → s ≡ status.Ok → text ≡ text_of end → Way text_of files program script s text

module _ (text_of : State → List ℕ) (files : Option Files) (program script : List ℕ) (s : Status) (text : List ℕ) where
  by_script : (program_bytes : List ℕ) → Gives files program max_program program_bytes → (start : State) → opened program_bytes ≡ Ok start
      → (bytes : List ℕ) → Gives files script max_script bytes
      → (r : Result State ReplayFault) → scripted start bytes ≡ r → LeadsTo files (after_script text_of r) s text → Way text_of files program script s text
  by_script program_bytes pg start o bytes g (Ok end) e (a, b) =
      accepted end (record { program_bytes = program_bytes; program_given = pg; script_bytes = bytes; script_given = g; replays = ap (then_scripted bytes) o ∙ e }) a b
  by_script program_bytes pg start o bytes g (Err f) e (a, b) = bad_script start (record { bytes = program_bytes; given = pg; opens = o }) bytes g f e a b

  by_program : (bytes : List ℕ) → Gives files program max_program bytes → (r : Result State ReplayFault) → opened bytes ≡ r
      → LeadsTo files (after_program text_of script r) s text → Way text_of files program script s text
  by_program bytes g (Ok start) e (inl (l, (a, b))) = long_script start (record { bytes = bytes; given = g; opens = e }) l a b
  by_program bytes g (Ok start) e (inr (script_bytes, h, l)) = by_script bytes g start e script_bytes h (scripted start script_bytes) refl l
  by_program bytes g (Err f) e (a, b) = bad_program bytes g f e a b

  way : LeadsTo files (script_on_program text_of program script) s text → Way text_of files program script s text
  way (inl (l, (a, b))) = long_program l a b
  way (inr (bytes, g, l)) = by_program bytes g (opened bytes) refl l

-- ---- faults of a program and of a script, none of which is want of memory

data ProgramFault : ReplayFault → Type 0 where
  is_text : (f : TextFault) → ProgramFault (fault.Program f)
  is_load : (f : LoadFault) → ProgramFault (fault.Load f)

data ScriptFault : ReplayFault → Type 0 where
  is_script : (f : TextFault) → ScriptFault (fault.Script f)
  is_refused : (n : ℕ) (r : Refusal) → ScriptFault (fault.Refused n r)

same_fault : (f g : ReplayFault) → ◌≡◌ {A = Result State ReplayFault} (Err f) (Err g) → f ≡ g
same_fault f g e = cc

not_ok : (s : State) (f : ReplayFault) → ◌≡◌ {A = Result State ReplayFault} (Ok s) (Err f) → ⊥
not_ok s f e = cc

program_fault : (bytes : List ℕ) (f : ReplayFault) → opened bytes ≡ Err f → ProgramFault f
program_fault bytes f h = by_text (located (length bytes) (program bytes)) h
  where
    by_load : (r : Result Program Refused) → started r ≡ Err f → ProgramFault f
    by_load (Ok p) h = absurd (not_ok _ f h)
    by_load (Err x) h = subst ProgramFault (same_fault _ f h) (is_load (fault_of x.0 x.1))

    by_text : (r : Result (List SourceClause) TextFault) → loaded r ≡ Err f → ProgramFault f
    by_text (Ok source) h = by_load (load (map meaning_of source)) h
    by_text (Err x) h = subst ProgramFault (same_fault _ f h) (is_text x)

script_fault : (s : State) (bytes : List ℕ) (f : ReplayFault) → scripted s bytes ≡ Err f → ScriptFault f
script_fault s bytes f h = by_text (located (length bytes) (script bytes)) h
  where
    by_run : (r : Result State (ℕ × Refusal)) → unless_refused r ≡ Err f → ScriptFault f
    by_run (Ok t) h = absurd (not_ok t f h)
    by_run (Err x) h = subst ScriptFault (same_fault _ f h) (is_refused x.0 x.1)

    by_text : (r : Result (List Step) TextFault) → carried_out s r ≡ Err f → ScriptFault f
    by_text (Ok steps) h = by_run (run s steps) h
    by_text (Err x) h = subst ScriptFault (same_fault _ f h) (is_script x)

program_status : (f : ReplayFault) → ProgramFault f → fault_status f ≡ status.BadProgram
program_status _ (is_text f) = refl
program_status _ (is_load f) = refl

-- ---- what each status says

module _ (text_of : State → List ℕ) (files : Option Files) (program script text : List ℕ) where
  pub ok : LeadsTo files (script_on_program text_of program script) status.Ok text
      → (end : State) × IsAccepted files program script end × (text ≡ text_of end)
  ok l = by_way (way text_of files program script status.Ok text l)
    where
      by_script_fault : (f : ReplayFault) → ScriptFault f → status.Ok ≡ fault_status f → ⊥
      by_script_fault _ (is_script f) e = cc
      by_script_fault _ (is_refused n r) e = cc

      by_way : Way text_of files program script status.Ok text → (end : State) × IsAccepted files program script end × (text ≡ text_of end)
      by_way (long_program t a b) = absurd cc
      by_way (bad_program bytes g f e a b) = let c = program_status f (program_fault bytes f e) in absurd cc
      by_way (long_script start o t a b) = absurd cc
      by_way (bad_script start o bytes g f e a b) = absurd (by_script_fault f (script_fault start bytes f e) a)
      by_way (accepted end h a b) = (end, h, b)

  pub refused : LeadsTo files (script_on_program text_of program script) status.Refused text
      → (number : ℕ) × ((refusal : Refusal) × IsRefused files program script number refusal × (text ≡ refused_line number refusal))
  refused l = by_way (way text_of files program script status.Refused text l)
    where
      by_fault : (start : State) → Opens files program script start → (bytes : List ℕ) → Gives files script max_script bytes
          → (f : ReplayFault) → ScriptFault f → scripted start bytes ≡ Err f → status.Refused ≡ fault_status f → text ≡ fault_line f
          → (number : ℕ) × ((refusal : Refusal) × IsRefused files program script number refusal × (text ≡ refused_line number refusal))
      by_fault start o bytes g _ (is_script f) e a b = absurd cc
      by_fault start o bytes g _ (is_refused n r) e a b = (n, (r, record { start = start; opens = o; bytes = bytes; given = g; refuses = e }, b))

      by_way : Way text_of files program script status.Refused text
          → (number : ℕ) × ((refusal : Refusal) × IsRefused files program script number refusal × (text ≡ refused_line number refusal))
      by_way (long_program t a b) = absurd cc
      by_way (bad_program bytes g f e a b) = let c = program_status f (program_fault bytes f e) in absurd cc
      by_way (long_script start o t a b) = absurd cc
      by_way (bad_script start o bytes g f e a b) = by_fault start o bytes g f (script_fault start bytes f e) e a b
      by_way (accepted end h a b) = absurd cc

  pub bad_program_is_bad : LeadsTo files (script_on_program text_of program script) status.BadProgram text → IsBadProgram files program script text
  bad_program_is_bad l = by_way (way text_of files program script status.BadProgram text l)
    where
      by_script_fault : (f : ReplayFault) → ScriptFault f → status.BadProgram ≡ fault_status f → ⊥
      by_script_fault _ (is_script f) e = cc
      by_script_fault _ (is_refused n r) e = cc

      by_way : Way text_of files program script status.BadProgram text → IsBadProgram files program script text
      by_way (long_program t a b) = inl (t, b)
      by_way (bad_program bytes g f e a b) = inr (bytes, g, (f, e, b))
      by_way (long_script start o t a b) = absurd cc
      by_way (bad_script start o bytes g f e a b) = absurd (by_script_fault f (script_fault start bytes f e) a)
      by_way (accepted end h a b) = absurd cc

  pub bad_script_is_bad : LeadsTo files (script_on_program text_of program script) status.BadScript text → IsBadScript files program script text
  bad_script_is_bad l = by_way (way text_of files program script status.BadScript text l)
    where
      by_way : Way text_of files program script status.BadScript text → IsBadScript files program script text
      by_way (long_program t a b) = absurd cc
      by_way (bad_program bytes g f e a b) = let c = program_status f (program_fault bytes f e) in absurd cc
      by_way (long_script start o t a b) = (start, o, inl (t, b))
      by_way (bad_script start o bytes g f e a b) = (start, o, inr (bytes, g, (f, e, b)))
      by_way (accepted end h a b) = absurd cc

-- ---- the file that is awaited

module _ (text_of : State → List ℕ) (files : Option Files) (program script name : List ℕ) where
  awaited_after : (bytes : List ℕ) → Gives files program max_program bytes → (r : Result State ReplayFault) → opened bytes ≡ r
      → Awaits files (after_program text_of script r) name → (name ≡ script) × ((start : State) × Opens files program script start)
  awaited_after bytes g (Ok start) e (inl n) = (n, (start, record { bytes = bytes; given = g; opens = e }))
  awaited_after bytes g (Ok start) e (inr (inl (l, h))) = absurd h
  awaited_after bytes g (Ok start) e (inr (inr (b, k, h))) = absurd (no_further (scripted start b) h)
    where
      no_further : (r : Result State ReplayFault) → Awaits files (after_script text_of r) name → ⊥
      no_further (Ok end) h = h
      no_further (Err f) h = h
  awaited_after bytes g (Err f) e h = absurd h

  pub awaited : Awaits files (script_on_program text_of program script) name
      → (name ≡ program) ⊎ ((name ≡ script) × ((start : State) × Opens files program script start))
  awaited (inl n) = inl n
  awaited (inr (inl (l, h))) = absurd h
  awaited (inr (inr (bytes, g, h))) = inr (awaited_after bytes g (opened bytes) refl h)

-- ---- words

said_of_script : (text_of : State → List ℕ) (files : Option Files) (program script : List ℕ) (s : Status) (text : List ℕ)
    → LeadsTo files (script_on_program text_of program script) s text → is_said s ≡ true
said_of_script text_of files program script s text l = by_way (way text_of files program script s text l)
  where
    by_script_fault : (f : ReplayFault) → ScriptFault f → is_said (fault_status f) ≡ true
    by_script_fault _ (is_script f) = refl
    by_script_fault _ (is_refused n r) = refl

    by_way : Way text_of files program script s text → is_said s ≡ true
    by_way (long_program t a b) = ap is_said a
    by_way (bad_program bytes g f e a b) = ap is_said (a ∙ program_status f (program_fault bytes f e))
    by_way (long_script start o t a b) = ap is_said a
    by_way (bad_script start o bytes g f e a b) = ap is_said a ∙ by_script_fault f (script_fault start bytes f e)
    by_way (accepted end h a b) = ap is_said a

pub plans_say : (words : List (List ℕ)) (files : Option Files) (s : Status) (text : List ℕ) → LeadsTo files (plan words) s text → is_said s ≡ true
plans_say words files s text l = by_command (command_of words) l
  where
    by_command : (c : Option Command) → LeadsTo files (plan_of c) s text → is_said s ≡ true
    by_command None (a, b) = ap is_said a
    by_command (Some (Replay program script)) l = said_of_script output files program script s text l
    by_command (Some (Fill program script)) l = said_of_script filled files program script s text l

pub no_command : (words : List (List ℕ)) (files : Option Files) → command_of words ≡ None
    → ((s : Status) (text : List ℕ) → LeadsTo files (plan words) s text → (s ≡ status.Usage) × (text ≡ usage_line)) × ((name : List ℕ) → ¬ Awaits files (plan words) name)
no_command words files e =
    (λ s text l. subst (λ c. LeadsTo files (plan_of c) s text) e l, λ name h. subst (λ c. Awaits files (plan_of c) name) e h)

pub usage : (words : List (List ℕ)) (files : Option Files) (text : List ℕ) → LeadsTo files (plan words) status.Usage text → command_of words ≡ None
usage words files text l = by_command (command_of words) refl l
  where
    not_usage : (text_of : State → List ℕ) (program script : List ℕ) → LeadsTo files (script_on_program text_of program script) status.Usage text → ⊥
    not_usage text_of program script l = by_way (way text_of files program script status.Usage text l)
      where
        by_script_fault : (f : ReplayFault) → ScriptFault f → status.Usage ≡ fault_status f → ⊥
        by_script_fault _ (is_script f) e = cc
        by_script_fault _ (is_refused n r) e = cc

        by_way : Way text_of files program script status.Usage text → ⊥
        by_way (long_program t a b) = cc
        by_way (bad_program bytes g f e a b) = let c = program_status f (program_fault bytes f e) in cc
        by_way (long_script start o t a b) = cc
        by_way (bad_script start o bytes g f e a b) = by_script_fault f (script_fault start bytes f e) a
        by_way (accepted end h a b) = cc

    by_command : (c : Option Command) → command_of words ≡ c → LeadsTo files (plan_of c) status.Usage text → command_of words ≡ None
    by_command None e l = e
    by_command (Some (Replay program script)) e l = absurd (not_usage output program script l)
    by_command (Some (Fill program script)) e l = absurd (not_usage filled program script l)
