-- The text of a name.
use Rattle.std.specs.Prelude.{ℕ, Bool, true, false, ◌||◌, ◌&&◌, ◌==◌, if◌then◌else◌, List, [], ◌∷◌, ◌++◌}
use Rattle.std.specs.Char.{is_ascii_alphanumeric, is_ascii_lowercase}

-- an ASCII letter, a digit or `_`
abbrev pub is_word : ℕ → Bool
is_word b = is_ascii_alphanumeric b || b == 95

abbrev pub are_word : List ℕ → Bool
are_word [] = true
are_word (b ∷ bs) = is_word b && are_word bs

-- a lower-case ASCII letter, then ASCII letters, digits and `_`
abbrev pub is_plain : List ℕ → Bool
is_plain [] = false
is_plain (b ∷ bs) = is_ascii_lowercase b && are_word bs

-- a `\`, a single quote, a line feed (as `n`) and a tab (as `t`) stand behind a `\`, and all else as it is
unfoldable pub escaped : ℕ → List ℕ
escaped b =
    if b == 92 then 92 ∷ 92 ∷ [] else (if b == 39 then 92 ∷ 39 ∷ []
    else (if b == 10 then 92 ∷ 110 ∷ [] else (if b == 9 then 92 ∷ 116 ∷ [] else b ∷ [])))

abbrev pub all_escaped : List ℕ → List ℕ
all_escaped [] = []
all_escaped (b ∷ bs) = escaped b ++ all_escaped bs

-- between single quotes
abbrev pub quoted : List ℕ → List ℕ
quoted name = 39 ∷ all_escaped name ++ 39 ∷ []

-- a name in plain form as it is, and every other quoted
unfoldable pub name_text : List ℕ → List ℕ
name_text name = if is_plain name then name else quoted name
