-- The first token from a place in a text on.
use Rattle.std.specs.Prelude.{◌≡◌, ◌≤◌, ℕ, ◌+◌, ◌-◌, List, length, take, drop, Option, Some, None, Result, Ok, Err}
use Rattle.token_model.specs.declared.token.Lexeme.{Lexeme}
use Rattle.token_model.specs.declared.token.Lexeme.TheVariants as l
use Rattle.token_model.specs.declared.token.Token.{Token as Lexed}
use Rattle.token_model.specs.declared.fault.Kind.{Kind}
use Rattle.token_model.specs.declared.fault.Kind.TheVariants as fault
use Rattle.token_model.specs.Names.{quoted_name}
use Rattle.token_model.specs.Remaining.{Remaining, left, lexeme}
use Rattle.token_model.specs.Remaining as remaining
use Rattle.text_fault.specs.declared.fault.TextFault.{TextFault}
use Rattle.text_fault.specs.Places.{placed}
use Rattle.token_at.specs.declared.token.Token.{Token}
use Rattle.token_at.specs.declared.token.TokenKind.{TokenKind}
use Rattle.token_at.specs.declared.token.TokenKind.TheVariants as kind
use Rattle.token_at.specs.Before.{ends_in_number}

-- what kind of token it is
abbrev pub kind_of : Lexeme → TokenKind
kind_of l.Name = kind.Name
kind_of l.Quoted = kind.Quoted
kind_of l.Variable = kind.Variable
kind_of l.Number = kind.Number
kind_of l.End = kind.End
kind_of l.Unsupported = kind.Unsupported
kind_of l.Finish = kind.Finish
kind_of _ = kind.Mark

-- why there is none
abbrev pub fault_kind : Lexeme → Option Kind
fault_kind l.Bad = Some fault.BadToken
fault_kind l.NumberTooLarge = Some fault.NumberTooLarge
fault_kind l.NameTooLong = Some fault.NameTooLong
fault_kind _ = None

-- what remains from this place on
abbrev pub from_place : List ℕ → ℕ → Remaining
from_place text at = record { text = drop at text; after_number = ends_in_number (take at text) }

-- a token in a text of this length, where so many bytes are left
abbrev pub token_of : ℕ → ℕ → Lexed → Token
token_of len left t = record { from = len - left; to = len - left + t.len; kind = kind_of t.lexeme }

abbrev pub answer_by : ℕ → ℕ → Lexed → Option Kind → Result Token TextFault
answer_by len left t (Some kind) = Err (placed len (record { left = left; kind = kind }))
answer_by len left t None = Ok (token_of len left t)

-- the first token from this place on, after white and comments, or its fault
unfoldable pub next_token : List ℕ → ℕ → Result Token TextFault
next_token text at = let r = from_place text at in answer_by (length text) (left r) (remaining.next_token r) (fault_kind (lexeme r))

-- it is the first token from some place of the text on
abbrev pub IsTokenOf : List ℕ → Token → Type 0
IsTokenOf text t = (at : ℕ) × (at ≤ length text) × (next_token text at ≡ Ok t)

-- the bytes of a token
abbrev pub spelling : List ℕ → Token → List ℕ
spelling text t = take (t.to - t.from) (drop t.from text)

-- the name that a token of this spelling stands for
abbrev pub named : TokenKind → List ℕ → List ℕ
named kind.Quoted spelling = quoted_name spelling
named _ spelling = spelling
