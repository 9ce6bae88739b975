-- Going through the variables that occur, in rising order.
use Rattle.std.specs.Prelude.{ℕ, ℤ, List, [], ◌∷◌, Bool, true, ◌&&◌, nat_le, nat_lt, if◌then◌else◌, Option, Some, None}
use Rattle.clp_model.specs.Clauses.{Row}

abbrev pub precedes : ℕ → Option ℕ → Bool
precedes v None = true
precedes v (Some w) = nat_lt v w

-- v, where it is not below `from` and less than what was found
abbrev pub nearer : ℕ → ℕ → Option ℕ → Option ℕ
nearer from v found = if nat_le from v && precedes v found then Some v else found

-- the least variable of the pairs that is not below `from`, or what was found where that is less
abbrev pub least_from : ℕ → List (ℕ × ℤ) → Option ℕ → Option ℕ
least_from from [] found = found
least_from from (p ∷ ps) found = least_from from ps (nearer from p.0 found)

abbrev pub least_in_rows : ℕ → List Row → Option ℕ → Option ℕ
least_in_rows from [] found = found
least_in_rows from (r ∷ rs) found = least_in_rows from rs (least_from from r.pairs found)

-- the least variable of the rows and the pairs that is not below `from`
unfoldable pub next_variable : ℕ → List Row → List (ℕ × ℤ) → Option ℕ
next_variable from rows pairs = least_in_rows from rows (least_from from pairs None)
