-- What a reader keeps of what it reads from.
use Rattle.std.specs.Prelude.{◌≡◌, ◌<◌, ◌+◌, ◌^◌, ℕ, Bool, true, false, List, length, IsUtf8, Result, Ok, Err}
use Rattle.token_model.specs.declared.token.Lexeme.{Lexeme}
use Rattle.token_model.specs.declared.token.Lexeme.TheVariants as l
use Rattle.token_model.specs.declared.fault.Fault.{Fault}
use Rattle.token_model.specs.Remaining.{Remaining}

-- a token of whole characters; only what begins none may end within a character
abbrev pub is_whole : Lexeme → Bool
is_whole l.Bad = false
is_whole _ = true

-- the text is in UTF-8, and so short that the variables of a clause can be numbered
pub record IsReadable (remaining : Remaining) (names : List (List ℕ)) : Type 0 where
  pub text : IsUtf8 remaining.text
  pub small : length remaining.text + length names < 2 ^ 32

-- the text was passed up to what remains, or there is this fault
abbrev pub Passes : Result Remaining Fault → Result (Unit {0}) Fault → Remaining → Type 0
Passes outcome (Ok u) new = outcome ≡ Ok new
Passes outcome (Err f) new = outcome ≡ Err f
