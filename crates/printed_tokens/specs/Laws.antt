-- The laws of printed names, variables and numbers.
use Rattle.std.specs.Prelude.{◌≡◌, ◌≤◌, ◌<◌, ◌^◌, ℕ, if◌then◌else◌, List, ◌++◌, length}
use Rattle.std.specs.Fmt.{decimal}
use Rattle.token_model.specs.declared.token.Lexeme.{Lexeme}
use Rattle.token_model.specs.declared.token.Lexeme.TheVariants as l
use Rattle.token_model.specs.Names.{max_name, quoted_name}
use Rattle.token_model.specs.Numbers.{max_number, number_value}
use Rattle.token_model.specs.Remaining.{Remaining, ahead}
use Rattle.print_model.specs.Names.{is_plain, quoted, predicate_text}
use Rattle.print_model.specs.Terms.{variable_text}
use Rattle.printed_tokens.specs.Next.{NextIs, EndsName, EndsNumber}

-- as what a name is printed
abbrev pub lexeme_of_name : List ℕ → Lexeme
lexeme_of_name name = if is_plain name then l.Name else l.Quoted

-- a printed name is one token, plain or quoted
abbrev pub NamesAreTokens : Type 0
NamesAreTokens =
    (r : Remaining) (name rest : List ℕ) → length name ≤ max_name → ahead r ≡ predicate_text name ++ rest → EndsName rest
    → NextIs r (lexeme_of_name name) (predicate_text name) rest

-- which stands for the name
abbrev pub QuotedNamesAreTakenBack : Type 0
QuotedNamesAreTakenBack = (name : List ℕ) → quoted_name (quoted name) ≡ name

-- a printed variable is one token
abbrev pub VariablesAreTokens : Type 0
VariablesAreTokens = (r : Remaining) (n : ℕ) (rest : List ℕ) → n < 2 ^ 64 → ahead r ≡ variable_text n ++ rest → EndsName rest → NextIs r l.Variable (variable_text n) rest

-- so is a number that is not too large, and its value is the number
abbrev pub NumbersAreTokens : Type 0
NumbersAreTokens = (r : Remaining) (n : ℕ) (rest : List ℕ) → n ≤ max_number → ahead r ≡ decimal n ++ rest → EndsNumber rest → NextIs r l.Number (decimal n) rest

abbrev pub NumbersAreTakenBack : Type 0
NumbersAreTakenBack = (n : ℕ) → n ≤ max_number → number_value (decimal n) ≡ n
