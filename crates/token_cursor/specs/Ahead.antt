-- The next token of what remains of a text.
use Rattle.std.specs.Prelude.{◌≡◌, ◌≤◌, ℕ, List, length}
use Rattle.token_model.specs.declared.token.Token.{Token}
use Rattle.token_model.specs.Remaining.{Remaining, ahead, next_token}

-- what a cursor keeps: the text from the next token on, and that token
pub record LooksAhead (remaining : Remaining) (kept : List ℕ) (next : Token) : Type 0 where
  pub ahead : kept ≡ ahead remaining
  pub token : next ≡ next_token remaining
  pub within : next.len ≤ length kept
