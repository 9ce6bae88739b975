-- What stands before a place.
use Rattle.std.specs.Prelude.{ℕ, Bool, ◌&&◌, nat_eq, nat_lt, List, reverse}
use Rattle.token_model.specs.Names.{word_len}
use Rattle.token_model.specs.Numbers.{digits_len}

-- the letters, digits and `_` at the end of a text are one or more digits and nothing else
unfoldable pub ends_in_number : List ℕ → Bool
ends_in_number text = let back = reverse text in nat_lt 0 (digits_len back) && nat_eq (digits_len back) (word_len back)
