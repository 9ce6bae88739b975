-- The words and the numbers of a script.
use Rattle.std.specs.Prelude.{ℕ, zero, suc, ◌&&◌, ◌||◌, Bool, nat_le, if◌then◌else◌, List, [], ◌∷◌, ◌++◌, Ok, Err}
use Rattle.std.specs.Str.{bytes_eq}
use Rattle.case_table.specs.declared.rule_word.RuleWord.{RuleWord}
use Rattle.case_table.specs.Rules.{rule_word}
use Rattle.clp_model.specs.declared.predicate.Pred.{Pred}
use Rattle.token_model.specs.declared.token.Lexeme.TheVariants as l
use Rattle.token_model.specs.declared.fault.Kind.{Kind}
use Rattle.token_model.specs.declared.fault.Kind.TheVariants.{Unexpected, BadNumber}
use Rattle.token_model.specs.declared.fault.Fault.{Fault}
use Rattle.token_model.specs.Numbers.{number_value}
use Rattle.token_model.specs.Remaining.{Remaining, lexeme, left, spelling, next, sees, eat, expect, reason, fault_at, refusal, refuse}
use Rattle.token_model.specs.Parsers.{Parser, ◌>>=◌, ◌>>◌, pure}
use Rattle.token_cursor.specs.Escapes.{name_by}

-- the greatest id, position and number of a variable
abbrev pub max_field : ℕ
max_field = 4294967295

-- this kind, where a token has no fault of its own
abbrev pub in_place_of : Kind → Kind → Kind
in_place_of other Unexpected = other
in_place_of other own = own

-- the fault of the next token, or one of this kind where it has none of its own
unfoldable pub refusal_as : Kind → Remaining → Fault
refusal_as other r = fault_at (in_place_of other (reason (lexeme r))) r

-- this word, which is not quoted, comes next
unfoldable pub sees_word : List ℕ → Remaining → Bool
sees_word wanted r = sees l.Name r && bytes_eq (spelling r) wanted

-- takes this word; another token is a fault of this kind, where it has none of its own
unfoldable pub word_or : Kind → List ℕ → Parser Remaining (Unit {0})
word_or other wanted = λ r. if sees_word wanted r then Ok (tt, next r) else Err (refusal_as other r)

-- takes a word of a step
abbrev pub word : RuleWord → Parser Remaining (Unit {0})
word wanted = word_or Unexpected (rule_word wanted)

-- a number from one limit to another; a number outside is a fault of this kind
unfoldable pub number_within : ℕ → ℕ → Kind → Parser Remaining ℕ
number_within low high other = λ r. if sees l.Number r then number_by (number_value (spelling r)) r else Err (refusal r)
  where
    number_by : ℕ → Parser Remaining ℕ
    number_by n = λ r. if nat_le low n && nat_le n high then Ok (n, next r) else Err (fault_at other r)

-- an id, a position or the number of a variable
abbrev pub number32 : Parser Remaining ℕ
number32 = number_within 0 max_field BadNumber

-- ---- predicates

-- a name, plain or quoted
unfoldable pub name : Parser Remaining (List ℕ)
name = λ r. if sees l.Name r || sees l.Quoted r then Ok (name_by (lexeme r) (spelling r), next r) else Err (refusal r)

-- a name, and how many arguments it has
unfoldable pub predicate : Parser Remaining Pred
predicate = do
  of ← name
  expect l.Over
  arity ← number32
  pure (record { name = of; arity = arity })

-- ---- lists

-- One or more, with commas between. The number bounds the turns, and each takes a token, so the count of bytes is enough.
unfoldable pub listed_from : {A : Type 0} → Parser Remaining A → ℕ → List A → Parser Remaining (List A)
listed_from item zero found = refuse
listed_from item (suc n) found = do
  x ← item
  goes_on ← eat l.Comma
  if goes_on then listed_from item n (found ++ x ∷ []) else pure (found ++ x ∷ [])

-- what stands behind the bracket that opens a list: the bracket that closes it, or the elements before that
unfoldable pub listed_by : {A : Type 0} → Parser Remaining A → Bool → Parser Remaining (List A)
listed_by item is_empty = if is_empty then pure [] else (do
  found ← (λ r. listed_from item (left r) [] r)
  expect l.CloseSquare
  pure found)

-- none or more in square brackets
unfoldable pub listed : {A : Type 0} → Parser Remaining A → Parser Remaining (List A)
listed item = do
  expect l.OpenSquare
  is_empty ← eat l.CloseSquare
  listed_by item is_empty
