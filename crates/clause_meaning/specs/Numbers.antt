-- The variables of names, in a list of their numbers.
use Rattle.std.specs.Prelude.{ℕ, ◌-◌, List, slice_index_or}

-- the variable's number of the name at this place, 0 where there is none; places count from 1
abbrev pub number_of : List ℕ → ℕ → ℕ
number_of numbers n = slice_index_or numbers (n - 1) 0
