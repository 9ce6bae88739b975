-- White and comments between the tokens of a script decide nothing but places.
use Rattle.std.specs.Prelude.{◌≡◌, ◌≤◌, ℕ, ℤ, List, None}
use Rattle.token_model.specs.Remaining.{Remaining, whole, left}
use Rattle.token_cursor.specs.Utf8.{not_utf8}
use Rattle.map_model.specs.declared.shown.Shown.{Shown}
use Rattle.script_grammar.specs.Fields.{number32, listed_from}
use Rattle.script_grammar.specs.Certificates.{multipliers_from, shown}
use Rattle.script_grammar.specs.Script.{step, script, line}
use Rattle.space_laws.specs.Same.{SameTokens, Matches, ReadsAlike, SameResult}
use Rattle.space_laws.specs.Moved.{moved_result}

-- the grammar begins multipliers with the count of bytes that are left, and every greater number reads the same
abbrev pub MultiplierTurns : Type 0
MultiplierTurns = (n m : ℕ) (found : List ℤ) (r : Remaining) → left r ≤ n → n ≤ m → multipliers_from m found r ≡ multipliers_from n found r

-- so it is with lists of numbers, and of what shows rows
abbrev pub NumberTurns : Type 0
NumberTurns = (n m : ℕ) (found : List ℕ) (r : Remaining) → left r ≤ n → n ≤ m → listed_from number32 m found r ≡ listed_from number32 n found r

abbrev pub ShownTurns : Type 0
ShownTurns = (n m : ℕ) (found : List Shown) (r : Remaining) → left r ≤ n → n ≤ m → listed_from shown m found r ≡ listed_from shown n found r

-- ---- texts of the same tokens, where `to` sends the place of each token in one to its place in the other

abbrev pub StepsAreTheSame : Type 0
StepsAreTheSame = (to : ℕ → ℕ) (r s : Remaining) → Matches to r s → ReadsAlike to (step r) (step s)

abbrev pub ScriptsAreTheSame : Type 0
ScriptsAreTheSame = (to : ℕ → ℕ) (text other : List ℕ) → not_utf8 text ≡ None → not_utf8 other ≡ None → Matches to (whole text) (whole other) → script other ≡ moved_result to (script text)

abbrev pub LinesAreTheSame : Type 0
LinesAreTheSame = (to : ℕ → ℕ) (text other : List ℕ) → not_utf8 text ≡ None → not_utf8 other ≡ None → Matches to (whole text) (whole other) → line other ≡ moved_result to (line text)

-- ---- with no places named

-- the same steps, or a fault of the same kind at the same token
abbrev pub SpacesChangeNoScript : Type 0
SpacesChangeNoScript = (text other : List ℕ) → not_utf8 text ≡ None → not_utf8 other ≡ None → SameTokens (whole text) (whole other) → SameResult (whole text) (whole other) (script text) (script other)

abbrev pub SpacesChangeNoLine : Type 0
SpacesChangeNoLine = (text other : List ℕ) → not_utf8 text ≡ None → not_utf8 other ≡ None → SameTokens (whole text) (whole other) → SameResult (whole text) (whole other) (line text) (line other)
