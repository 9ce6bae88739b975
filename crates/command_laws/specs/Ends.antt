-- What each status says of the files of a call, and of what is written.
use Rattle.std.specs.Prelude.{◌≡◌, ◌⊎◌, ℕ, List, Option, Ok, Err}
use Rattle.map_base.specs.Outside.{Files, TellsLonger}
use Rattle.map_model.specs.declared.refusal.Refusal.{Refusal}
use Rattle.map_model.specs.State.{State}
use Rattle.replay_model.specs.declared.replay_fault.ReplayFault.{ReplayFault}
use Rattle.replay_model.specs.declared.replay_fault.ReplayFault.TheVariants as fault
use Rattle.replay_model.specs.Replay.{opened, scripted, replayed}
use Rattle.status_lines.specs.Lines.{max_program, max_script, long_program_line, long_script_line, fault_line}
use Rattle.command_model.specs.Causes.{Gives}

-- of the names of a program file and a script file
module _ (files : Option Files) (program script : List ℕ) where
  -- the files were given, and the replay of the two is accepted
  pub record IsAccepted (end : State) : Type 0 where
    pub program_bytes : List ℕ
    pub program_given : Gives files program max_program program_bytes
    pub script_bytes : List ℕ
    pub script_given : Gives files script max_script script_bytes
    pub replays : replayed program_bytes script_bytes ≡ Ok end

  -- the program was given, and it is loaded
  pub record Opens (start : State) : Type 0 where
    pub bytes : List ℕ
    pub given : Gives files program max_program bytes
    pub opens : opened bytes ≡ Ok start

  -- the program was loaded, and the script was given, of which the step of this number is the first that is refused
  pub record IsRefused (number : ℕ) (refusal : Refusal) : Type 0 where
    pub start : State
    pub opens : Opens start
    pub bytes : List ℕ
    pub given : Gives files script max_script bytes
    pub refuses : scripted start bytes ≡ Err (fault.Refused number refusal)

  -- the program is too long, or has a fault, which the line tells
  abbrev pub IsBadProgram : List ℕ → Type 0
  IsBadProgram line =
      (TellsLonger files program max_program × (line ≡ long_program_line))
      ⊎ ((bytes : List ℕ) × Gives files program max_program bytes × ((f : ReplayFault) × (opened bytes ≡ Err f) × (line ≡ fault_line f)))

  -- the program was loaded, and the script is too long, or has a fault, which the line tells
  abbrev pub IsBadScript : List ℕ → Type 0
  IsBadScript line =
      (start : State) × Opens start
      × ((TellsLonger files script max_script × (line ≡ long_script_line))
      ⊎ ((bytes : List ℕ) × Gives files script max_script bytes × ((f : ReplayFault) × (scripted start bytes ≡ Err f) × (line ≡ fault_line f))))
