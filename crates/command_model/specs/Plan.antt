-- What a call asks for and writes, as a plan: in which order it asks for files, and how it ends by what they hold.
use Rattle.std.specs.Prelude.{ℕ, List, Option, Some, None, Result, Ok, Err}
use Rattle.replay_model.specs.declared.replay_fault.ReplayFault.{ReplayFault}
use Rattle.map_model.specs.State.{State}
use Rattle.script_grammar.specs.ScriptText.{script_text}
use Rattle.replay_model.specs.Replay.{opened, scripted, output}
use Rattle.command_model.specs.declared.status.Status.{Status}
use Rattle.command_model.specs.declared.status.Status.TheVariants as status
use Rattle.command_model.specs.Command.{Command, Replay, Fill, command_of}
use Rattle.status_lines.specs.Lines.{max_program, max_script, long_program_line, long_script_line, fault_line}
use Rattle.command_model.specs.Lines.{usage_line, fault_status}

-- a call ends with a status and the text that is written; or it asks for the file of a name, and goes on by its bytes, or
-- in another way where they are more than so many
pub data Plan : Type 0 where
  Ends : Status → List ℕ → Plan
  Asks : List ℕ → ℕ → Plan → (List ℕ → Plan) → Plan

-- the line of a replay's fault, with its status
abbrev pub faulty : ReplayFault → Plan
faulty f = Ends (fault_status f) (fault_line f)

-- ---- a script on a program, of whose last state this text is written
module _ (text_of : State → List ℕ) where
  abbrev pub after_script : Result State ReplayFault → Plan
  after_script (Ok end) = Ends status.Ok (text_of end)
  after_script (Err f) = faulty f

  abbrev pub after_program : List ℕ → Result State ReplayFault → Plan
  after_program script (Ok start) = Asks script max_script (Ends status.BadScript long_script_line) (λ bytes. after_script (scripted start bytes))
  after_program script (Err f) = faulty f

  abbrev pub script_on_program : List ℕ → List ℕ → Plan
  script_on_program program script = Asks program max_program (Ends status.BadProgram long_program_line) (λ bytes. after_program script (opened bytes))

-- the script of the steps of a state, each with its certificate
abbrev pub filled : State → List ℕ
filled end = script_text end.steps

abbrev pub plan_of_command : Command → Plan
plan_of_command (Replay program script) = script_on_program output program script
plan_of_command (Fill program script) = script_on_program filled program script

abbrev pub plan_of : Option Command → Plan
plan_of None = Ends status.Usage usage_line
plan_of (Some command) = plan_of_command command

-- the plan of the words of a call
abbrev pub plan : List (List ℕ) → Plan
plan words = plan_of (command_of words)
