-- What the plans of commands say in the words of their subject.
use Rattle.std.specs.Prelude.{◌≡◌, ◌⊎◌, ℕ, List, true, Option, Some, None}
use Rattle.map_base.specs.Outside.{Files}
use Rattle.map_model.specs.declared.refusal.Refusal.{Refusal}
use Rattle.map_model.specs.State.{State}
use Rattle.command_model.specs.declared.status.Status.{Status}
use Rattle.command_model.specs.declared.status.Status.TheVariants as status
use Rattle.command_model.specs.Command.{command_of}
use Rattle.status_lines.specs.Lines.{refused_line}
use Rattle.command_model.specs.Lines.{usage_line}
use Rattle.command_model.specs.Plan.{Plan, script_on_program, plan}
use Rattle.command_model.specs.Causes.{LeadsTo, Awaits, is_said}
use Rattle.command_model.specs.Answers.{right_answer, Writes}
use Rattle.command_laws.specs.Ends.{IsAccepted, Opens, IsRefused, IsBadProgram, IsBadScript}

-- where the shelf tells its files, a plan leads to the right answer alone
abbrev pub WhatIsReachedIsRight : Type 0
WhatIsReachedIsRight = (files : Files) (p : Plan) (s : Status) (text : List ℕ) → LeadsTo (Some files) p s text → right_answer files p ≡ Writes s text

-- a plan ends with a status that has a text
abbrev pub PlansEndWithText : Type 0
PlansEndWithText = (words : List (List ℕ)) (files : Option Files) (s : Status) (text : List ℕ) → LeadsTo files (plan words) s text → is_said s ≡ true

-- words that mean no command ask for no file, and are answered so
abbrev pub NoCommandIsUsage : Type 0
NoCommandIsUsage = (words : List (List ℕ)) (files : Option Files) → command_of words ≡ None
    → ((s : Status) (text : List ℕ) → LeadsTo files (plan words) s text → (s ≡ status.Usage) × (text ≡ usage_line)) × ((name : List ℕ) → ¬ Awaits files (plan words) name)

-- that status comes for nothing else
abbrev pub UsageIsNoCommand : Type 0
UsageIsNoCommand = (words : List (List ℕ)) (files : Option Files) (text : List ℕ) → LeadsTo files (plan words) status.Usage text → command_of words ≡ None

-- ---- a script on a program, of whose last state a text is written
abbrev pub OkIsAccepted : Type 0
OkIsAccepted = (text_of : State → List ℕ) (files : Option Files) (program script text : List ℕ) → LeadsTo files (script_on_program text_of program script) status.Ok text
    → (end : State) × IsAccepted files program script end × (text ≡ text_of end)

abbrev pub RefusedIsRefused : Type 0
RefusedIsRefused = (text_of : State → List ℕ) (files : Option Files) (program script text : List ℕ) → LeadsTo files (script_on_program text_of program script) status.Refused text
    → (number : ℕ) × ((refusal : Refusal) × IsRefused files program script number refusal × (text ≡ refused_line number refusal))

abbrev pub BadProgramIsBad : Type 0
BadProgramIsBad = (text_of : State → List ℕ) (files : Option Files) (program script text : List ℕ) → LeadsTo files (script_on_program text_of program script) status.BadProgram text
    → IsBadProgram files program script text

abbrev pub BadScriptIsBad : Type 0
BadScriptIsBad = (text_of : State → List ℕ) (files : Option Files) (program script text : List ℕ) → LeadsTo files (script_on_program text_of program script) status.BadScript text
    → IsBadScript files program script text

-- the file that is awaited is the program's, or the script's once the program was loaded
abbrev pub AwaitedFilesComeInOrder : Type 0
AwaitedFilesComeInOrder = (text_of : State → List ℕ) (files : Option Files) (program script name : List ℕ) → Awaits files (script_on_program text_of program script) name
    → (name ≡ program) ⊎ ((name ≡ script) × ((start : State) × Opens files program script start))
