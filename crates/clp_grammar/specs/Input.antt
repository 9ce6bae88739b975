-- What a reader of programs reads from, and the steps that its rules are made of.
use Rattle.std.specs.Prelude.{ℕ, zero, suc, Bool, true, false, if◌then◌else◌, List, [], ◌∷◌, ◌++◌, Ok, Err}
use Rattle.token_model.specs.declared.token.Lexeme.{Lexeme}
use Rattle.token_model.specs.declared.token.Lexeme.TheVariants as l
use Rattle.token_model.specs.declared.fault.Kind.{Kind}
use Rattle.token_model.specs.declared.fault.Kind.TheVariants.{TooDeep}
use Rattle.token_model.specs.declared.fault.Fault.{Fault}
use Rattle.token_model.specs.Numbers.{number_value}
use Rattle.token_model.specs.Remaining as token
use Rattle.token_model.specs.Remaining.{Remaining}
use Rattle.token_cursor.specs.Escapes.{name_by}
use Rattle.token_model.specs.Parsers.{Parser, ◌>>=◌, ◌<$>◌, pure}

-- what remains of the text, and the variables of the clause so far
pub record Input : Type 0 where
  pub remaining : Remaining
  -- by their numbers; the empty name stands for each `_`
  pub names : List (List ℕ)

-- before anything of a clause was read
abbrev pub start : Remaining → Input
start r = record { remaining = r; names = [] }

-- after the next token
abbrev pub passed : Input → Input
passed i = record i { remaining = token.next i.remaining }

-- how many bytes there are from the next token on
abbrev pub left : Input → ℕ
left i = token.left i.remaining

-- such a token comes next
abbrev pub sees : Lexeme → Input → Bool
sees wanted i = token.sees wanted i.remaining

-- ---- brackets

-- How many brackets may be open at a place, each comma between elements of a list that is still open counted as one.
abbrev pub max_open : ℕ
max_open = 256

abbrev pub is_opening : Lexeme → Bool
is_opening l.OpenRound = true
is_opening l.OpenSquare = true
is_opening l.OpenCurly = true
is_opening _ = false

-- why no rule goes on here, where this many more brackets may be open
unfoldable pub refusal : ℕ → Remaining → Fault
refusal zero r = if is_opening (token.lexeme r) then token.fault_at TooDeep r else token.refusal r
refusal (suc more) r = token.refusal r

-- ---- tokens

-- a fault of this kind at the next token
abbrev pub fail : {A : Type 0} → Kind → Parser Input A
fail kind = λ i. Err (token.fault_at kind i.remaining)

-- no rule goes on here, where this many more brackets may be open
abbrev pub refuse : {A : Type 0} → ℕ → Parser Input A
refuse more = λ i. Err (refusal more i.remaining)

-- how many bytes there are from here on
abbrev pub here : Parser Input ℕ
here = λ i. Ok (left i, i)

-- what the next token is, which is not passed
abbrev pub peek : Parser Input Lexeme
peek = λ i. Ok (token.lexeme i.remaining, i)

-- whether such a token comes next, which is not passed
abbrev pub comes : Lexeme → Parser Input Bool
comes wanted = λ i. Ok (sees wanted i, i)

-- passes the next token
abbrev pub pass : Parser Input (Unit {0})
pass = λ i. Ok (tt, passed i)

-- the bytes of the next token, which is passed
abbrev pub take_token : Parser Input (List ℕ)
take_token = λ i. Ok (token.spelling i.remaining, passed i)

-- passes such a token, if it comes next
unfoldable pub eat : Lexeme → Parser Input Bool
eat wanted = λ i. Ok (sees wanted i, record i { remaining = token.after wanted i.remaining })

-- passes such a token, which must come next, where this many more brackets may be open
unfoldable pub expect : ℕ → Lexeme → Parser Input (Unit {0})
expect more wanted = λ i. if sees wanted i then Ok (tt, passed i) else Err (refusal more i.remaining)

-- the name that comes next, plain or quoted
abbrev pub name : Lexeme → Parser Input (List ℕ)
name lexeme = name_by lexeme <$> take_token

-- the number that comes next
abbrev pub number : Parser Input ℕ
number = number_value <$> take_token

-- ---- lists

-- One or more, with commas between. The number bounds the turns, and each takes a token, so the count of bytes is enough.
unfoldable pub separated_from : {A : Type 0} → Parser Input A → ℕ → List A → Parser Input (List A)
separated_from item zero found = refuse max_open
separated_from item (suc n) found = do
  x ← item
  goes_on ← eat l.Comma
  if goes_on then separated_from item n (found ++ x ∷ []) else pure (found ++ x ∷ [])

unfoldable pub separated : {A : Type 0} → Parser Input A → Parser Input (List A)
separated item = λ i. separated_from item (left i) [] i
