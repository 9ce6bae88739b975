-- Marks, the end, and the tokens that are left out.
use Rattle.std.specs.Prelude.{ℕ, Bool, true, false, ◌&&◌, ◌||◌, if◌then◌else◌, ◌==◌, List, [], ◌∷◌, length, codes}
use Rattle.std.specs.Char.{is_ascii_digit}
use Rattle.token_model.specs.declared.token.Lexeme.{Lexeme}
use Rattle.token_model.specs.declared.token.Lexeme.TheVariants as l
use Rattle.token_model.specs.declared.token.Token.{Token}
use Rattle.token_model.specs.White.{is_white}

-- the marks and the tokens that are left out, longer ones before shorter ones; `/*` is here only where its comment
-- isn't closed
abbrev pub marks : List (List ℕ × Lexeme)
marks =
    (codes "=:=", l.NumberEqual) ∷ (codes "=\\=", l.Unsupported) ∷ (codes "\\==", l.Unsupported) ∷ (codes "-->", l.Unsupported)
    ∷ (codes ":-", l.If) ∷ (codes "=<", l.AtMost) ∷ (codes ">=", l.AtLeast) ∷ (codes "==", l.Unsupported) ∷ (codes "\\=", l.Unsupported)
    ∷ (codes "\\+", l.Unsupported) ∷ (codes "->", l.Unsupported) ∷ (codes "?-", l.Unsupported) ∷ (codes "/*", l.Bad)
    ∷ (codes "(", l.OpenRound) ∷ (codes ")", l.CloseRound) ∷ (codes "[", l.OpenSquare) ∷ (codes "]", l.CloseSquare)
    ∷ (codes "{", l.OpenCurly) ∷ (codes "}", l.CloseCurly) ∷ (codes ",", l.Comma) ∷ (codes "|", l.Bar)
    ∷ (codes "=", l.Equal) ∷ (codes "<", l.Less) ∷ (codes ">", l.Greater) ∷ (codes "+", l.Plus) ∷ (codes "-", l.Minus)
    ∷ (codes "*", l.Times) ∷ (codes "/", l.Over) ∷ (codes "!", l.Unsupported) ∷ (codes ";", l.Unsupported)
    ∷ (codes "^", l.Unsupported) ∷ (codes "\"", l.Unsupported) ∷ []

-- the text begins with these bytes
abbrev pub begins_with : List ℕ → List ℕ → Bool
begins_with [] text = true
begins_with (b ∷ bs) [] = false
begins_with (b ∷ bs) (c ∷ text) = b == c && begins_with bs text

-- what begins no token
abbrev pub bad : Token
bad = record { lexeme = l.Bad; len = 1 }

-- the first of these with which the text begins
abbrev pub first_of : List (List ℕ × Lexeme) → List ℕ → Token
first_of [] text = bad
first_of (m ∷ ms) text = if begins_with m.0 text then record { lexeme = m.1; len = length m.0 } else first_of ms text

unfoldable pub mark : List ℕ → Token
mark text = first_of marks text

-- what a `.` is before this text: the end of a clause before white, a comment of a line or the end of the text; left
-- out between a number and a digit
abbrev pub dot_by : Bool → List ℕ → Lexeme
dot_by after_number [] = l.End
dot_by after_number (b ∷ text) =
    if is_white b || b == 37 then l.End
    else (if after_number && is_ascii_digit b then l.Unsupported
    else l.Bad)

unfoldable pub dot : Bool → List ℕ → Token
dot after_number text = record { lexeme = dot_by after_number text; len = 1 }
