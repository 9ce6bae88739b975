-- Numbers.
use Rattle.std.specs.Prelude.{ℕ, suc, Bool, false, ◌||◌, if◌then◌else◌, ◌==◌, nat_lt, List, [], ◌∷◌, take, drop}
use Rattle.std.specs.Char.{is_ascii_digit, is_ascii_alphabetic}
use Rattle.std.specs.Str.Parse.{digits_value}
use Rattle.token_model.specs.declared.token.Lexeme.{Lexeme}
use Rattle.token_model.specs.declared.token.Lexeme.TheVariants as l
use Rattle.token_model.specs.declared.token.Token.{Token}

-- the greatest value of a number token
abbrev pub max_number : ℕ
max_number = 9223372036854775807

-- how many digits stand at the front
abbrev pub digits_len : List ℕ → ℕ
digits_len [] = 0
digits_len (b ∷ text) = if is_ascii_digit b then suc (digits_len text) else 0

-- the number that digits write in base ten
abbrev pub number_value : List ℕ → ℕ
number_value digits = digits_value 10 digits

-- a letter, `_` or a single quote stands at the front
unfoldable pub joins_number : List ℕ → Bool
joins_number [] = false
joins_number (b ∷ text) = is_ascii_alphabetic b || b == 95 || b == 39

-- a number of any length whose value is not too large
unfoldable pub lexeme_of_digits : List ℕ → Lexeme
lexeme_of_digits digits = if nat_lt max_number (number_value digits) then l.NumberTooLarge else l.Number

-- the digits at the front, with no letter, `_` or single quote directly behind
unfoldable pub number : List ℕ → Token
number text = let len = digits_len text in
    record { lexeme = if joins_number (drop len text) then l.Bad else lexeme_of_digits (take len text); len = len }
