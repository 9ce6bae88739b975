-- How the parts of a call end, and what is known then.
use Rattle.std.specs.Prelude.{◌≡◌, ℕ, List, Option, Ok}
use Rattle.std.specs.Io.KnownBytes.{append_known}
use Rattle.map_base.specs.Outside.{Files, Rose, TakesPrefix}
use Rattle.map_model.specs.State.{State}
use Rattle.replay_model.specs.Replay.{opened, scripted}
use Rattle.status_lines.specs.Lines.{max_program, max_script, long_program_line, long_script_line, fault_line}
use Rattle.command_model.specs.declared.status.Status.{Status}
use Rattle.command_model.specs.declared.status.Status.TheVariants as status
use Rattle.command_model.specs.Command as commands
use Rattle.command_model.specs.Lines.{fault_status}
use Rattle.command_model.specs.Plan.{Plan}
use Rattle.command_model.specs.Causes.{Gives, LeadsTo, Awaits}
use Rattle.map_main.specs.declared.command.TwoFiles.{TwoFiles}
use Rattle.map_main.specs.declared.command.Command.{Command}
use Rattle.map_main.specs.declared.command.Command.TheVariants as command
use Rattle.map_main.specs.declared.replaying.Stop.{Stop}
use Rattle.map_main.specs.declared.replaying.Stop.TheVariants as stop

-- the command of the definitions
abbrev pub named : Command → commands.Command
named (command.Replay files) = commands.Replay files.program.now files.script.now
named (command.Fill files) = commands.Fill files.program.now files.script.now

-- the program of this name was given, and it is loaded
pub record Opens (files : Option Files) (program : List ℕ) (start : State) : Type 0 where
  pub bytes : List ℕ
  pub given : Gives files program max_program bytes
  pub opens : opened bytes ≡ Ok start

-- the script of this name was given, and it ends here
pub record Runs (files : Option Files) (script : List ℕ) (start end : State) : Type 0 where
  pub bytes : List ℕ
  pub given : Gives files script max_script bytes
  pub runs : scripted start bytes ≡ Ok end

-- why a plan was left before its end: the count of a shelf's faults before and after, and the name of its last failed load
abbrev pub Stops : ℕ → ℕ → List ℕ → Option Files → Plan → Stop → Type 0
Stops shelf shelf' failed files plan stop.LongProgram = (shelf' ≡ shelf) × LeadsTo files plan status.BadProgram long_program_line
Stops shelf shelf' failed files plan stop.LongScript = (shelf' ≡ shelf) × LeadsTo files plan status.BadScript long_script_line
Stops shelf shelf' failed files plan (stop.Fault f) = (shelf' ≡ shelf) × LeadsTo files plan (fault_status f) (fault_line f)
Stops shelf shelf' failed files plan stop.ShelfFault = Rose shelf shelf' × Awaits files plan failed
Stops shelf shelf' failed files plan stop.NoMemory = shelf' ≡ shelf

-- what a sink took before and after, and the counts of its faults
module _ (before after : Option (List ℕ)) (sink sink' : ℕ) where
  -- how a text was written: whole, with this status at the end, or a beginning of it
  pub data IsWritten (s : Status) (text : List ℕ) : Status → Type 0 where
    whole : after ≡ append_known before text → sink' ≡ sink → IsWritten s text s
    sink_failed : TakesPrefix before after text → Rose sink sink' → IsWritten s text status.SinkFault
    no_memory : TakesPrefix before after text → sink' ≡ sink → IsWritten s text status.NoMemory

  -- how a call ends
  pub data Ends (files : Option Files) (plan : Plan) (shelf shelf' : ℕ) (failed : List ℕ) : Status → Type 0 where
    answers : (s : Status) (text : List ℕ) → LeadsTo files plan s text → shelf' ≡ shelf
        → (t : Status) → IsWritten s text t → Ends files plan shelf shelf' failed t
    shelf_failed : Rose shelf shelf' → Awaits files plan failed → after ≡ before → sink' ≡ sink
        → Ends files plan shelf shelf' failed status.ShelfFault
    no_memory_before : shelf' ≡ shelf → after ≡ before → sink' ≡ sink → Ends files plan shelf shelf' failed status.NoMemory
