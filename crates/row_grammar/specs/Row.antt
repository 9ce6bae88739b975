-- The row of a step that adds one, with the word `show` after it.
use Rattle.std.specs.Prelude.{ℕ, ◌-◌, ◌&&◌, not, Bool, true, false, nat_eq, nat_lt, nat_le, if◌then◌else◌, List, [], ◌∷◌, map, codes, slice_index_or, Option, Some, None, Result, Ok, Err}
use Rattle.std.specs.Char.{is_ascii_digit}
use Rattle.std.specs.List.{list_all}
use Rattle.std.specs.Option.{option_or}
use Rattle.std.specs.Str.{bytes_eq}
use Rattle.clp_model.specs.Clauses.{Row}
use Rattle.token_model.specs.declared.token.Lexeme.TheVariants as l
use Rattle.token_model.specs.declared.fault.Kind.TheVariants.{BadVariable}
use Rattle.token_model.specs.declared.fault.Fault.{Fault}
use Rattle.token_model.specs.Numbers.{number_value}
use Rattle.token_model.specs.Remaining.{Remaining, spelling}
use Rattle.token_model.specs.Parsers.{Parser, Outcome, ◌>>=◌, ◌>>◌, pure}
use Rattle.clp_grammar.specs.declared.expression.Head.{Head}
use Rattle.clp_grammar.specs.declared.expression.Expression.{Expression, Number, Variable, Node', Row_of-Expression, end_of-Expression, more_of-Expression}
use Rattle.clp_grammar.specs.declared.draft.Comparison.{Comparison}
use Rattle.clp_grammar.specs.Input.{Input, start, max_open, sees, passed, refusal}
use Rattle.clp_grammar.specs.Goals.{comparison}
use Rattle.clp_grammar.specs.Evaluation.{fault_at, with_value, row_of}
use Rattle.clp_grammar.specs.Clauses.{unless}

-- the greatest number of a variable
abbrev pub max_variable : ℕ
max_variable = 4294967295

-- ---- names of variables

-- digits without leading zeros that write a number from 1 to the greatest
abbrev pub is_positive : List ℕ → Bool
is_positive [] = false
is_positive (b ∷ digits) = list_all is_ascii_digit (b ∷ digits) && not (nat_eq b 48) && nat_le (number_value (b ∷ digits)) max_variable

-- the number of a variable, which stands behind `V`; 0 for every other name
unfoldable pub variable_number : List ℕ → ℕ
variable_number [] = 0
variable_number (b ∷ digits) = if nat_eq b 86 && is_positive digits then number_value digits else 0

-- the numbers of the variables of names
abbrev pub variable_numbers : List (List ℕ) → List ℕ
variable_numbers names = map variable_number names

-- the number of the name at this place; places count from 1
abbrev pub number_at : List ℕ → ℕ → ℕ
number_at numbers n = slice_index_or numbers (n - 1) 0

-- a variable that has no number
abbrev pub variable_fault : List ℕ → ℕ → ℕ → Option Fault
variable_fault numbers place n = if nat_eq (number_at numbers n) 0 then Some (fault_at place BadVariable) else None

-- the first such variable of an expression
unfoldable mutual
  pub variables_fault : List ℕ → Expression → Option Fault
  variables_fault numbers (Number place value) = None
  variables_fault numbers (Variable place n) = variable_fault numbers place n
  variables_fault numbers (Node' place head shape parts) = parts_fault numbers parts

  pub parts_fault : {m : _} → List ℕ → Row_of-Expression m → Option Fault
  parts_fault numbers end_of-Expression = None
  parts_fault numbers (more_of-Expression part parts) = option_or (variables_fault numbers part) (parts_fault numbers parts)

-- the same of a list of parts
abbrev pub parts_fault_of : List ℕ → List Expression → Option Fault
parts_fault_of numbers [] = None
parts_fault_of numbers (part ∷ parts) = option_or (variables_fault numbers part) (parts_fault_of numbers parts)

-- the first such variable of a relation's sides
unfoldable pub sides_fault : List ℕ → Comparison → Option Fault
sides_fault numbers c = option_or (variables_fault numbers c.first) (variables_fault numbers c.second)

-- ---- rows

-- passes the word `show`, which is not quoted
unfoldable pub show_word : Parser Input (Unit {0})
show_word = λ i. if sees l.Name i && bytes_eq (spelling i.remaining) (codes "show") then Ok (tt, passed i) else Err (refusal max_open i.remaining)

-- a relation between expressions, and the word `show` after it
unfoldable pub compared_to_show : Parser Input Comparison
compared_to_show = do
  found ← comparison max_open
  show_word
  pure found

-- the row of a relation, where names have these numbers
unfoldable pub row_over : List ℕ → Comparison → Result Row Fault
row_over numbers c = unless (sides_fault numbers c) (row_of (number_at numbers) c)

abbrev pub meant : Outcome Input Comparison → Outcome Remaining Row
meant (Ok p) = with_value (row_over (variable_numbers p.1.names) p.0) (λ row. Ok (row, p.1.remaining))
meant (Err e) = Err e

-- Tokens and grammar come first, up to and with the word `show`; then the variables, and then the value of the row.
unfoldable pub row_to_show : Parser Remaining Row
row_to_show r = meant (compared_to_show (start r))
