-- Names, plain and quoted, and variables.
use Rattle.std.specs.Prelude.{ℕ, suc, ◌-◌, Bool, ◌||◌, if◌then◌else◌, ◌==◌, nat_lt, List, [], ◌∷◌, length, take, drop, Option, Some, None, option_map}
use Rattle.std.specs.Char.{is_ascii_alphanumeric}
use Rattle.token_model.specs.declared.token.Lexeme.{Lexeme}
use Rattle.token_model.specs.declared.token.Lexeme.TheVariants as l
use Rattle.token_model.specs.declared.token.Token.{Token}

-- how many bytes a name or a variable has at most
abbrev pub max_name : ℕ
max_name = 255

-- an ASCII letter, a digit or `_`
abbrev pub is_word : ℕ → Bool
is_word b = is_ascii_alphanumeric b || b == 95

-- how many bytes of a word stand at the front
abbrev pub word_len : List ℕ → ℕ
word_len [] = 0
word_len (b ∷ text) = if is_word b then suc (word_len text) else 0

abbrev pub unless_long : Lexeme → ℕ → Lexeme
unless_long lexeme len = if nat_lt max_name len then l.NameTooLong else lexeme

-- a name or a variable: the letters, digits and `_` at the front
unfoldable pub word : Lexeme → List ℕ → Token
word lexeme text = let len = word_len text in record { lexeme = unless_long lexeme len; len = len }

-- ---- quoted names

-- what may stand behind a `\`: another one, a single quote, `n` and `t`
abbrev pub is_escape : ℕ → Bool
is_escape b = b == 92 || b == 39 || b == 110 || b == 116

-- the byte that an escape stands for: a line feed, a tab, or itself
abbrev pub escaped_byte : ℕ → ℕ
escaped_byte b = if b == 110 then 10 else (if b == 116 then 9 else b)

-- the longer of two names that end: the one that goes on, if it ends
abbrev pub or_here : Option ℕ → Option ℕ
or_here None = Some 1
or_here (Some n) = Some (suc (suc n))

-- How many bytes there are up to and with the quote that ends a quoted name, of which this is what follows the first
-- quote. Two quotes stand for one where the name ends further on, so that the name is the longest that ends; and it
-- ends in its line.
unfoldable mutual
  pub closing : List ℕ → Option ℕ
  closing [] = None
  closing (b ∷ text) =
      if b == 39 then after_quote text
      else (if b == 92 then after_backslash text
      else (if b == 10 then None
      else option_map suc (closing text)))

  -- after a quote: where another follows, the name goes on if it ends further on
  pub after_quote : List ℕ → Option ℕ
  after_quote [] = Some 1
  after_quote (b ∷ text) = if b == 39 then or_here (closing text) else Some 1

  pub after_backslash : List ℕ → Option ℕ
  after_backslash [] = None
  after_backslash (b ∷ text) = if is_escape b then option_map (λ n. suc (suc n)) (closing text) else None

-- the name between the quotes, after its escapes
unfoldable mutual
  pub unescaped : List ℕ → List ℕ
  unescaped [] = []
  unescaped (b ∷ text) = if b == 39 || b == 92 then after_mark text else b ∷ unescaped text

  -- after a quote or a `\`
  pub after_mark : List ℕ → List ℕ
  after_mark [] = []
  after_mark (b ∷ text) = escaped_byte b ∷ unescaped text

-- the name that a quoted name of this spelling, its quotes included, stands for
abbrev pub quoted_name : List ℕ → List ℕ
quoted_name spelling = unescaped (take (length spelling - 2) (drop 1 spelling))

abbrev pub quoted_by : List ℕ → Option ℕ → Token
quoted_by text None = record { lexeme = l.Bad; len = 1 }
quoted_by text (Some n) = record { lexeme = unless_long l.Quoted (length (quoted_name (take (suc n) text))); len = suc n }

-- a quoted name, or a quote that begins none
unfoldable pub quoted : List ℕ → Token
quoted text = quoted_by text (closing (drop 1 text))
