-- The rows that an elimination makes, and whether they are in range.
use Rattle.std.specs.Prelude.{ℕ, List, [], ◌∷◌, map, Bool, true, ◌&&◌}
use Rattle.clp_model.specs.Clauses.{Row}
use Rattle.linear_model.specs.Forms.{combination}
use Rattle.linear_model.specs.Normal.{normal, is_within}
use Rattle.linear_model.specs.Elimination.{eliminated, row_itself}

-- each coefficient and constant is in range
abbrev pub all_within : List Row → Bool
all_within [] = true
all_within (r ∷ rs) = is_within r && all_within rs

-- what the elimination of x makes, in normal form, also what is then dropped
abbrev pub made : ℕ → List Row → List Row
made x rows = map normal (eliminated row_itself combination x rows)
