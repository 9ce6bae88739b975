-- Where a plan leads, as far as the shelf tells its files.
use Rattle.std.specs.Prelude.{◌≡◌, ◌⊎◌, ℕ, ◌≤◌, List, length, Option, Bool, true, false}
use Rattle.map_base.specs.Outside.{Files, Tells, TellsLonger, TakesPrefix}
use Rattle.command_model.specs.declared.status.Status.{Status}
use Rattle.command_model.specs.declared.status.Status.TheVariants as status
use Rattle.command_model.specs.Plan.{Plan, Ends, Asks}

-- the shelf gave these bytes as the file of this name, and they are at most so many
pub record Gives (files : Option Files) (name : List ℕ) (most : ℕ) (bytes : List ℕ) : Type 0 where
  pub told : Tells files name bytes
  pub short : length bytes ≤ most

-- with files that were given or are too long, the plan ends with this status and this text
abbrev pub LeadsTo : Option Files → Plan → Status → List ℕ → Type 0
LeadsTo files (Ends s t) status text = (status ≡ s) × (text ≡ t)
LeadsTo files (Asks name most longer given) status text =
    (TellsLonger files name most × LeadsTo files longer status text)
    ⊎ ((bytes : List ℕ) × Gives files name most bytes × LeadsTo files (given bytes) status text)

-- the plan asks for the file of this name, once those before it were given or are too long
abbrev pub Awaits : Option Files → Plan → List ℕ → Type 0
Awaits files (Ends s t) wanted = ⊥
Awaits files (Asks name most longer given) wanted =
    (wanted ≡ name)
    ⊎ ((TellsLonger files name most × Awaits files longer wanted)
    ⊎ ((bytes : List ℕ) × Gives files name most bytes × Awaits files (given bytes) wanted))

-- a beginning of a right text was written, and no more
abbrev pub WritesBeginning : Option Files → Plan → Option (List ℕ) → Option (List ℕ) → Type 0
WritesBeginning files plan before after =
    (s : Status) × ((text : List ℕ) × LeadsTo files plan s text × TakesPrefix before after text)

-- the statuses that come with a text
abbrev pub is_said : Status → Bool
is_said status.Ok = true
is_said status.Refused = true
is_said status.Usage = true
is_said status.BadProgram = true
is_said status.BadScript = true
is_said _ = false
