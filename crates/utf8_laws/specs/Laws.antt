-- What remains of a text in UTF-8, token by token.
use Rattle.std.specs.Prelude.{◌≡◌, ◌≢◌, ◌-◌, IsUtf8, length, drop}
use Rattle.token_model.specs.declared.token.Lexeme.{Lexeme}
use Rattle.token_model.specs.declared.token.Lexeme.TheVariants as l
use Rattle.token_model.specs.Remaining.{Remaining, ahead, after, left, lexeme, next, spelling}
use Rattle.token_cursor.specs.Escapes.{name_by}

-- after white and comments a text is still one
abbrev pub SkippingKeepsText : Type 0
SkippingKeepsText = (r : Remaining) → IsUtf8 r.text → IsUtf8 (ahead r)

-- and so it is after a token; what begins none may be a byte within a character
abbrev pub TokensKeepText : Type 0
TokensKeepText = (r : Remaining) → IsUtf8 r.text → lexeme r ≢ l.Bad → IsUtf8 (next r).text

-- and after a token that is passed if it comes next
abbrev pub PassingKeepsText : Type 0
PassingKeepsText = (wanted : Lexeme) (r : Remaining) → IsUtf8 r.text → wanted ≢ l.Bad → IsUtf8 (after wanted r).text

-- the bytes of a token are a text
abbrev pub SpellingIsText : Type 0
SpellingIsText = (r : Remaining) → IsUtf8 r.text → lexeme r ≢ l.Bad → IsUtf8 (spelling r)

-- the name that a token stands for is a text, also after its escapes
abbrev pub NameIsText : Type 0
NameIsText = (r : Remaining) → IsUtf8 r.text → lexeme r ≢ l.Bad → IsUtf8 (name_by (lexeme r) (spelling r))

-- what is ahead is the end of what remains, so that its length tells its place
abbrev pub AheadIsAnEnd : Type 0
AheadIsAnEnd = (r : Remaining) → ahead r ≡ drop (length r.text - left r) r.text
