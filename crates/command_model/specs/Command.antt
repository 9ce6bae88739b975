-- What the words of a call mean.
use Rattle.std.specs.Prelude.{ℕ, List, [], ◌∷◌, codes, if◌then◌else◌, Option, Some, None}
use Rattle.std.specs.Str.{bytes_eq}

-- a script on a program, by the names of their files: what it writes is the program that is made, or the script with its
-- certificates
pub data Command : Type 0 where
  Replay : List ℕ → List ℕ → Command
  Fill : List ℕ → List ℕ → Command

-- the command of a verb with the names of a program file and a script file
abbrev pub of_two_files : List ℕ → List ℕ → List ℕ → Option Command
of_two_files verb program script =
    if bytes_eq verb (codes "replay") then Some (Replay program script)
    else (if bytes_eq verb (codes "fill") then Some (Fill program script)
    else None)

-- four words mean a script on a program; the first is not looked at, and other words mean nothing
abbrev pub command_of : List (List ℕ) → Option Command
command_of (name ∷ verb ∷ program ∷ script ∷ []) = of_two_files verb program script
command_of words = None
