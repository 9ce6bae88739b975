-- The token that comes next, and what may stand behind a printed one.
use Rattle.std.specs.Prelude.{◌≡◌, ℕ, Bool, true, false, ◌==◌, List, [], ◌∷◌, ◌++◌, length}
use Rattle.token_model.specs.declared.token.Lexeme.{Lexeme}
use Rattle.token_model.specs.declared.token.Lexeme.TheVariants as l
use Rattle.token_model.specs.Names.{word_len}
use Rattle.token_model.specs.Numbers.{digits_len, joins_number}
use Rattle.token_model.specs.Remaining.{Remaining, lexeme, spelling, next, left}

abbrev pub is_number : Lexeme → Bool
is_number l.Number = true
is_number _ = false

-- this token of these bytes comes next, and then this text
pub record NextIs (r : Remaining) (what : Lexeme) (bytes rest : List ℕ) : Type 0 where
  pub lexeme : lexeme r ≡ what
  pub spelling : spelling r ≡ bytes
  pub next : next r ≡ record { text = rest; after_number = is_number what }
  pub left : left r ≡ length (bytes ++ rest)

abbrev pub begins_with_quote : List ℕ → Bool
begins_with_quote [] = false
begins_with_quote (b ∷ text) = b == 39

-- the text goes on with no word and no quoted name
pub record EndsName (rest : List ℕ) : Type 0 where
  pub word : word_len rest ≡ 0
  pub quote : begins_with_quote rest ≡ false

-- the text goes on with no number, and may stand behind one
pub record EndsNumber (rest : List ℕ) : Type 0 where
  pub digits : digits_len rest ≡ 0
  pub joins : joins_number rest ≡ false
