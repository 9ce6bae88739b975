-- What the rules on constraints make of a clause.
use Rattle.std.specs.Prelude.{ℕ, nat_eq, nat_lt, if◌then◌else◌, pos, negsuc, List, [], ◌∷◌, ◌++◌, map, remove}
use Rattle.clp_model.specs.declared.sort.Rel.TheVariants.{Eq}
use Rattle.clp_model.specs.Trees.{mapped, mapped_all}
use Rattle.clp_model.specs.Clauses.{Clause, Row}
use Rattle.linear_model.specs.Changes.{renamed}
use Rattle.linear_model.specs.Elimination.{elimination}

-- the row put last
abbrev pub with_row : Clause → Row → Clause
with_row c r = record c { rows = c.rows ++ r ∷ [] }

-- the rows but the one at place i, counted from 0
abbrev pub without_row : Clause → ℕ → Clause
without_row c i = record c { rows = remove c.rows i }

-- its rows replaced by their elimination of v
abbrev pub projected : Clause → ℕ → Clause
projected c v = record c { rows = elimination v c.rows }

-- w in the place of v
abbrev pub replacing : ℕ → ℕ → ℕ → ℕ
replacing v w n = if nat_eq n v then w else n

-- w in the place of v everywhere
abbrev pub equated : Clause → ℕ → ℕ → Clause
equated c v w = record {
  head = mapped (replacing v w) c.head;
  equations = [];
  rows = map (renamed (replacing v w)) c.rows;
  body = mapped_all (replacing v w) c.body;
  sorts = c.sorts;
}

-- the equation of the lesser of two variables minus the greater
abbrev pub equation_of : ℕ → ℕ → Row
equation_of v w = record { rel = Eq; pairs = if nat_lt v w then (v, pos 1) ∷ (w, negsuc 0) ∷ [] else (w, pos 1) ∷ (v, negsuc 0) ∷ []; constant = pos 0 }
