-- A text that is read token by token.
use Rattle.std.specs.Prelude.{ℕ, Bool, false, ◌&&◌, if◌then◌else◌, nat_eq, List, length, take, drop, Ok, Err}
use denote.Enum.Bare.{sameb}
use Rattle.token_model.specs.contracts.token.Lexeme.{the_type}
use Rattle.token_model.specs.declared.token.Lexeme.{Lexeme}
use Rattle.token_model.specs.declared.token.Lexeme.TheVariants as l
use Rattle.token_model.specs.declared.token.Token.{Token}
use Rattle.token_model.specs.declared.fault.Kind.{Kind}
use Rattle.token_model.specs.declared.fault.Kind.TheVariants as fault
use Rattle.token_model.specs.declared.fault.Fault.{Fault}
use Rattle.token_model.specs.White.{skipped}
use Rattle.token_model.specs.Tokens.{token}
use Rattle.token_model.specs.Parsers.{Parser}

-- the text after the last token, and whether that was a number
pub record Remaining : Type 0 where
  pub text : List ℕ
  pub after_number : Bool

-- before the first token
abbrev pub whole : List ℕ → Remaining
whole text = record { text = text; after_number = false }

-- the text from the next token on
unfoldable pub ahead : Remaining → List ℕ
ahead r = skipped r.text

-- whether the next token stands directly after a number
unfoldable pub touches_number : Remaining → Bool
touches_number r = r.after_number && nat_eq (length (skipped r.text)) (length r.text)

unfoldable pub next_token : Remaining → Token
next_token r = token (touches_number r) (ahead r)

-- what the next token is
unfoldable pub lexeme : Remaining → Lexeme
lexeme r = (next_token r).lexeme

-- its bytes
unfoldable pub spelling : Remaining → List ℕ
spelling r = take (next_token r).len (ahead r)

-- the two are the same
unfoldable pub same_lexeme : Lexeme → Lexeme → Bool
same_lexeme = sameb the_type

-- what remains after the next token
unfoldable pub next : Remaining → Remaining
next r = record { text = drop (next_token r).len (ahead r); after_number = same_lexeme (lexeme r) l.Number }

-- how many bytes there are from the next token on
unfoldable pub left : Remaining → ℕ
left r = length (ahead r)

-- why no rule goes on with such a token
unfoldable pub reason : Lexeme → Kind
reason l.Finish = fault.UnexpectedEnd
reason l.NameTooLong = fault.NameTooLong
reason l.NumberTooLarge = fault.NumberTooLarge
reason l.Bad = fault.BadToken
reason l.Unsupported = fault.Unsupported
reason _ = fault.Unexpected

-- a fault at the next token
unfoldable pub fault_at : Kind → Remaining → Fault
fault_at kind r = record { left = left r; kind = kind }

-- why no rule goes on here
unfoldable pub refusal : Remaining → Fault
refusal r = fault_at (reason (lexeme r)) r

-- such a token comes next
unfoldable pub sees : Lexeme → Remaining → Bool
sees wanted r = same_lexeme (lexeme r) wanted

-- what remains after the next token, if it is such a one
unfoldable pub after : Lexeme → Remaining → Remaining
after wanted r = if sees wanted r then next r else r

-- ---- parsers that read from what remains

-- the bytes of the next token, which is passed
abbrev pub take_token : Parser Remaining (List ℕ)
take_token = λ r. Ok (spelling r, next r)

-- a fault of this kind at the next token
abbrev pub fail : {A : Type 0} → Kind → Parser Remaining A
fail kind = λ r. Err (fault_at kind r)

-- no rule goes on here
abbrev pub refuse : {A : Type 0} → Parser Remaining A
refuse = λ r. Err (refusal r)

-- what the next token is, which is not passed
abbrev pub peek : Parser Remaining Lexeme
peek = λ r. Ok (lexeme r, r)

-- passes such a token, if it comes next
abbrev pub eat : Lexeme → Parser Remaining Bool
eat wanted = λ r. Ok (sees wanted r, after wanted r)

-- passes such a token, which must come next
unfoldable pub expect : Lexeme → Parser Remaining (Unit {0})
expect wanted = λ r. if sees wanted r then Ok (tt, next r) else Err (refusal r)
