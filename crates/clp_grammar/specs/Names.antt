-- The variables of a clause, which are numbered from 1 as their names are first met.
use Rattle.std.specs.Prelude.{ℕ, ◌+◌, if◌then◌else◌, List, [], ◌∷◌, ◌++◌, length, position, Option, Some, None, Ok}
use Rattle.std.specs.Str.{bytes_eq}
use Rattle.token_model.specs.Parsers.{Parser, ◌>>=◌, pure}
use Rattle.clp_grammar.specs.Input.{Input, take_token}

-- the next number, for a variable of this name
unfoldable pub fresh : List ℕ → Parser Input ℕ
fresh name = λ i. Ok (length i.names + 1, record i { names = i.names ++ name ∷ [] })

-- the number at this place, or the next one for a name that has none
abbrev pub known_or_new : List ℕ → Option ℕ → Parser Input ℕ
known_or_new name (Some at) = pure (at + 1)
known_or_new name None = fresh name

-- the number of a variable; `_` is a new variable each time
unfoldable pub numbered : List ℕ → Parser Input ℕ
numbered name = λ i. if bytes_eq name (95 ∷ []) then fresh [] i else known_or_new name (position (bytes_eq name) i.names) i

-- the number of the variable that comes next
unfoldable pub variable : Parser Input ℕ
variable = take_token >>= numbered
