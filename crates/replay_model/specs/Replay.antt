-- What a script makes of a program, from the bytes of the two.
use Rattle.std.specs.Prelude.{◌≡◌, ◌⊎◌, ℕ, ◌-◌, ◌≤◌, List, [], map, take, length, Option, Some, None, Result, Ok, Err, if◌then◌else◌}
use Rattle.text_fault.specs.declared.fault.TextFault.{TextFault}
use Rattle.text_fault.specs.Places.{located}
use Rattle.clause_model.specs.Canonical as clauses
use Rattle.clause_model.specs.Load.{Program, Refused, load}
use Rattle.clause_store.specs.declared.source.SourceClause.{SourceClause}
use Rattle.clause_store.specs.Source.{meaning_of}
use Rattle.clause_loader.specs.declared.program.LoadFault.{LoadFault}
use Rattle.clause_loader.specs.declared.program.LoadFault.TheVariants as load_fault
use Rattle.print_model.specs.Clauses.{clause_text, program_text}
use Rattle.clp_grammar.specs.Grammar.{program}
use Rattle.script_grammar.specs.Script.{script}
use Rattle.map_model.specs.declared.step.Step.{Step}
use Rattle.map_model.specs.declared.refusal.Refusal.{Refusal}
use Rattle.map_model.specs.State.{Entry, State, start_state, live_clauses}
use Rattle.map_model.specs.After.{run}
use Rattle.replay_model.specs.declared.replay_fault.ReplayFault.{ReplayFault}
use Rattle.replay_model.specs.declared.replay_fault.ReplayFault.TheVariants as fault

-- which clause is refused, from 1, and why
abbrev pub fault_of : ℕ → clauses.Refusal → LoadFault
fault_of place clauses.Overflow = load_fault.Overflow place
fault_of place (clauses.TooLarge limit) = load_fault.TooLarge place limit

-- the start state of a loaded program, or why it was not loaded
abbrev pub started : Result Program Refused → Result State ReplayFault
started (Ok p) = Ok (start_state p.clauses p.predicates)
started (Err refused) = Err (fault.Load (fault_of refused.0 refused.1))

-- the start state of source clauses that were read, or why there is none
abbrev pub loaded : Result (List SourceClause) TextFault → Result State ReplayFault
loaded (Ok source) = started (load (map meaning_of source))
loaded (Err f) = Err (fault.Program f)

-- the start state of the program that a text is
abbrev pub opened : List ℕ → Result State ReplayFault
opened text = loaded (located (length text) (program text))

-- the state after a run, or the fault of its first refused step
abbrev pub unless_refused : Result State (ℕ × Refusal) → Result State ReplayFault
unless_refused (Ok t) = Ok t
unless_refused (Err refused) = Err (fault.Refused refused.0 refused.1)

-- the state after steps that were read, or why there is none
abbrev pub carried_out : State → Result (List Step) TextFault → Result State ReplayFault
carried_out s (Ok steps) = unless_refused (run s steps)
carried_out s (Err f) = Err (fault.Script f)

-- the state after the script that a text is
abbrev pub scripted : State → List ℕ → Result State ReplayFault
scripted s text = carried_out s (located (length text) (script text))

-- the script on a state, where there is one
abbrev pub then_scripted : List ℕ → Result State ReplayFault → Result State ReplayFault
then_scripted text (Ok s) = scripted s text
then_scripted text (Err f) = Err f

-- the state after the second text, a script, on the first, a program
abbrev pub replayed : List ℕ → List ℕ → Result State ReplayFault
replayed program_text script_text = then_scripted script_text (opened program_text)

-- the right output: the printed text of the live clauses by rising id
abbrev pub output : State → List ℕ
output s = program_text (live_clauses s)

-- the text of an entry: its clause's, where it is live
abbrev pub entry_text : Option Entry → List ℕ
entry_text None = []
entry_text (Some e) = if e.live then clause_text e.clause else []

-- why the steps stopped, and where the state is then: after a refusal it is that after all steps before
-- the refused one, and after want of memory that after some of the first steps
abbrev pub StopsAt : State → List Step → State → ReplayFault → Type 0
StopsAt s steps t (fault.Refused number refusal) =
    (run s steps ≡ Err (number, refusal)) × (run s (take (number - 1) steps) ≡ Ok t)
StopsAt s steps t fault.NoMemory = (count : ℕ) × (count ≤ length steps) × (run s (take count steps) ≡ Ok t)
StopsAt s steps t (fault.Program f) = ⊥
StopsAt s steps t (fault.Load f) = ⊥
StopsAt s steps t (fault.Script f) = ⊥

-- the same of the steps of a script's text; a text that is none leaves the state as it was
abbrev pub StopsWithin : State → List ℕ → State → ReplayFault → Type 0
StopsWithin s text t (fault.Refused number refusal) = (steps : List Step) × (script text ≡ Ok steps) × StopsAt s steps t (fault.Refused number refusal)
StopsWithin s text t fault.NoMemory = (t ≡ s) ⊎ ((steps : List Step) × (script text ≡ Ok steps) × StopsAt s steps t fault.NoMemory)
StopsWithin s text t (fault.Script f) = t ≡ s
StopsWithin s text t (fault.Program f) = ⊥
StopsWithin s text t (fault.Load f) = ⊥
