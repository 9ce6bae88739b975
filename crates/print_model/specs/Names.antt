-- The text of a name.
use Rattle.std.specs.Prelude.{ℕ, Bool, true, false, ◌&&◌, ◌==◌, if◌then◌else◌, List, [], ◌∷◌, ◌++◌, codes}
use Rattle.std.specs.Char.{is_ascii_lowercase}
use Rattle.std.specs.Str.{bytes_eq}
use Rattle.token_model.specs.Names.{is_word}

-- each byte is a letter, a digit or `_`
abbrev pub are_word : List ℕ → Bool
are_word [] = true
are_word (b ∷ bs) = is_word b && are_word bs

-- a lower-case letter, then letters, digits and `_`
abbrev pub is_plain : List ℕ → Bool
is_plain [] = false
is_plain (b ∷ bs) = is_ascii_lowercase b && are_word bs

-- a byte between quotes: a backslash, a quote, a line feed and a tab are escaped
abbrev pub escaped : ℕ → List ℕ
escaped b =
    if b == 92 then codes "\\\\" else (if b == 39 then codes "\\'" else (if b == 10 then codes "\\n" else (if b == 9 then codes "\\t"
    else b ∷ [])))

abbrev pub all_escaped : List ℕ → List ℕ
all_escaped [] = []
all_escaped (b ∷ bs) = escaped b ++ all_escaped bs

-- between single quotes
abbrev pub quoted : List ℕ → List ℕ
quoted name = codes "'" ++ (all_escaped name ++ codes "'")

-- as a predicate prints its name, or a term one with arguments: as it is where it is plain, else quoted
unfoldable pub predicate_text : List ℕ → List ℕ
predicate_text name = if is_plain name then name else quoted name

-- the name of the empty list
abbrev pub is_nil : List ℕ → Bool
is_nil name = bytes_eq name (codes "[]")

-- the name of a list of a first element and further ones
abbrev pub is_dot : List ℕ → Bool
is_dot name = bytes_eq name (codes ".")

-- as a term without arguments prints its name: the empty list is `[]`
abbrev pub name_text : List ℕ → List ℕ
name_text name = if is_nil name then codes "[]" else predicate_text name
