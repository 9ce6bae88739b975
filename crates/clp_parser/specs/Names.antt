-- Where the names of a clause's variables are found.
use Rattle.std.specs.Prelude.{ℕ, ◌+◌, List, [], ◌∷◌, map, string_bytes}
use Rattle.std.specs.declared.string.String.{String}

-- how many names are looked for one after another
abbrev pub few : ℕ
few = 16

-- each name that is not empty with its place, where the first of these names stands at place n
abbrev pub placed : ℕ → List (List ℕ) → List (List ℕ × ℕ)
placed n [] = []
placed n ([] ∷ names) = placed (n + 1) names
placed n ((b ∷ bs) ∷ names) = (b ∷ bs, n) ∷ placed (n + 1) names

-- entries with their keys as bytes
abbrev pub spelled : {A : Type 0} → List (String A × ℕ) → List (List ℕ × ℕ)
spelled entries = map (λ e. (string_bytes e.0, e.1)) entries
