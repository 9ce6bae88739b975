-- The headline and what `fill` promises, on files and output.
use Rattle.std.specs.Prelude.{◌≡◌, ℕ, List, ◌++◌, Option, Some}
use Rattle.replay_model.specs.Headline.{KeepsProvability}
use Rattle.replay_model.specs.Filling.{FillsScript}
use Rattle.map_base.specs.Outside.{Files, file_of}

-- The program file and the script file of these names are there. The output is longer by bytes that read as a program,
-- and what is provable in that program is what is provable in the program file.
pub record KeepsProvabilityOnFiles (program script : List ℕ) (files : Files) (before : List ℕ) (after : Option (List ℕ)) : Type 0 where
  pub program_bytes : List ℕ
  pub program_is : file_of files program ≡ Some program_bytes
  pub script_bytes : List ℕ
  pub script_is : file_of files script ≡ Some script_bytes
  pub written : List ℕ
  pub after_is : after ≡ Some (before ++ written)
  pub keeps : KeepsProvability program_bytes script_bytes written

-- The files are there. The output is longer by bytes that read as the script of the filled steps, whose replay on the
-- program file ends in the same state.
pub record FillsScriptOnFiles (program script : List ℕ) (files : Files) (before : List ℕ) (after : Option (List ℕ)) : Type 0 where
  pub program_bytes : List ℕ
  pub program_is : file_of files program ≡ Some program_bytes
  pub script_bytes : List ℕ
  pub script_is : file_of files script ≡ Some script_bytes
  pub written : List ℕ
  pub after_is : after ≡ Some (before ++ written)
  pub fills : FillsScript program_bytes script_bytes written
