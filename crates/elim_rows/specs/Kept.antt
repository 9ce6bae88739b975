-- How the rows come in order, and which of them are kept.
use Rattle.std.specs.Prelude.{◌≡◌, ℕ, pos, List, [], ◌∷◌, ◌++◌, true, not, int_lt, if◌then◌else◌}
use Rattle.clp_model.specs.Clauses.{Row}
use Rattle.clp_model.specs.Predicates.{with_element}
use Rattle.linear_model.specs.Forms.{coefficient, combination}
use Rattle.linear_model.specs.Normal.{normal, is_always, row_eq}
use Rattle.linear_model.specs.Elimination.{has, substituted, bounded, row_itself}
use Rattle.elim_rows.specs.Made.{all_within}

-- r put last, unless it is a true constant or there
abbrev pub with_row : List Row → Row → List Row
with_row kept r = if is_always r then kept else with_element row_eq kept r

-- each of the rows put last in turn
abbrev pub with_rows : List Row → List Row → List Row
with_rows kept [] = kept
with_rows kept (r ∷ rs) = with_rows (with_row kept r) rs

-- the rows came, each within the range, and took the kept ones from `before` to `after`
pub record Adds (before rows after : List Row) : Type 0 where
  pub kept : after ≡ with_rows before rows
  pub within : all_within rows ≡ true

-- what g makes of each row in turn
abbrev pub flat : (Row → List Row) → List Row → List Row
flat g [] = []
flat g (r ∷ rs) = g r ++ flat g rs

-- what becomes of r by the equation e that has x
abbrev pub of_substituted : ℕ → Row → Row → List Row
of_substituted x e r = normal (substituted row_itself combination x e r) ∷ []

-- what becomes of r by its bounds: it stays if it is none
abbrev pub of_other : ℕ → Row → List Row
of_other x r = if not (has x r) then normal r ∷ [] else []

-- what the lower bound l and r make: something if r is an upper bound
abbrev pub of_upper : ℕ → Row → Row → List Row
of_upper x l r = if int_lt (pos 0) (coefficient r.pairs x) then normal (bounded row_itself combination x l r) ∷ [] else []

-- what l makes with the upper bounds among the rows: something if l is a lower bound
abbrev pub of_lower : ℕ → List Row → Row → List Row
of_lower x rows l = if int_lt (coefficient l.pairs x) (pos 0) then flat (of_upper x l) rows else []
