-- What stands behind a printed piece.
use Rattle.std.specs.Prelude.{◌≡◌, ℕ, Bool, true, false, List}
use Rattle.token_model.specs.declared.token.Lexeme.{Lexeme}
use Rattle.token_model.specs.declared.token.Lexeme.TheVariants as l
use Rattle.token_model.specs.Marks.{dot_by}
use Rattle.token_model.specs.Remaining.{Remaining, lexeme}
use Rattle.printed_tokens.specs.Next.{EndsName, EndsNumber}

-- what remains, where the last token was a number or not
abbrev pub behind : List ℕ → Bool → Remaining
behind text after_number = record { text = text; after_number = after_number }

-- no expression goes on with such a token
abbrev pub ends : Lexeme → Bool
ends l.OpenRound = false
ends l.Plus = false
ends l.Minus = false
ends l.Times = false
ends l.Over = false
ends _ = true

-- neither an expression nor a relation goes on with it
abbrev pub closes : Lexeme → Bool
closes l.OpenRound = false
closes l.Plus = false
closes l.Minus = false
closes l.Times = false
closes l.Over = false
closes l.Equal = false
closes l.NumberEqual = false
closes l.AtMost = false
closes l.Less = false
closes l.AtLeast = false
closes l.Greater = false
closes _ = true

-- the text goes on with no name and no number, and its first token passes the test
pub record Stops (test : Lexeme → Bool) (z : List ℕ) : Type 0 where
  pub name : EndsName z
  pub number : EndsNumber z
  pub next : (after_number : Bool) → test (lexeme (behind z after_number)) ≡ true

-- this text makes a `.` before it the end of a clause
abbrev pub IsEndBefore : List ℕ → Type 0
IsEndBefore text = (after_number : Bool) → dot_by after_number text ≡ l.End
