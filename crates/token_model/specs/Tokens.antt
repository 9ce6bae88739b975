-- The token at the front of a text.
use Rattle.std.specs.Prelude.{ℕ, Bool, ◌||◌, if◌then◌else◌, ◌==◌, List, [], ◌∷◌}
use Rattle.std.specs.Char.{is_ascii_digit, is_ascii_lowercase, is_ascii_uppercase}
use Rattle.token_model.specs.declared.token.Lexeme.TheVariants as l
use Rattle.token_model.specs.declared.token.Token.{Token}
use Rattle.token_model.specs.Numbers.{number}
use Rattle.token_model.specs.Names.{word, quoted}
use Rattle.token_model.specs.Marks.{mark, dot}

-- the token at the front of a text that begins with no white and no comment, and whether it stands directly after a number
unfoldable pub token : Bool → List ℕ → Token
token after_number [] = record { lexeme = l.Finish; len = 0 }
token after_number (b ∷ text) =
    if is_ascii_lowercase b then word l.Name (b ∷ text)
    else (if is_ascii_uppercase b || b == 95 then word l.Variable (b ∷ text)
    else (if is_ascii_digit b then number (b ∷ text)
    else (if b == 39 then quoted (b ∷ text)
    else (if b == 46 then dot after_number text
    else mark (b ∷ text)))))
