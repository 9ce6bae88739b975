-- The right answer where the shelf tells its files.
use Rattle.std.specs.Prelude.{ℕ, List, length, nat_lt, if◌then◌else◌, Option, Some, None}
use Rattle.map_base.specs.Outside.{Files, file_of}
use Rattle.command_model.specs.declared.status.Status.{Status}
use Rattle.command_model.specs.Plan.{Plan, Ends, Asks}

-- a status with the text that is written, or a file that is not there
pub data Answer : Type 0 where
  Writes : Status → List ℕ → Answer
  Lacks : List ℕ → Answer

abbrev pub asked_by : (List ℕ → Answer) → Answer → List ℕ → ℕ → Option (List ℕ) → Answer
asked_by given longer name most None = Lacks name
asked_by given longer name most (Some bytes) = if nat_lt most (length bytes) then longer else given bytes

abbrev pub right_answer : Files → Plan → Answer
right_answer files (Ends status text) = Writes status text
right_answer files (Asks name most longer given) = asked_by (λ bytes. right_answer files (given bytes)) (right_answer files longer) name most (file_of files name)
