-- States whose live clauses prove what their base proves, by the rank.
use Rattle.std.specs.Prelude.{◌≡◌, Bool, true, false, ◌<◌, List, ◌++◌, map, length, Contains, All}
use Rattle.clp_model.specs.declared.predicate.Pred.{Pred}
use Rattle.clp_model.specs.Values.{GroundAtom}
use Rattle.clp_model.specs.Clauses.{Clause}
use Rattle.clp_model.specs.Predicates.{predicate_of}
use Rattle.clp_rank.specs.Entries.{Entry as Marked, RankedOver}
use Rattle.clause_model.specs.Canonical.{IsCanonical}
use Rattle.rule_laws.specs.Folding.{defined_in}
use Rattle.rule_laws.specs.Dropping.{IsKnown}
use Rattle.rule_laws.specs.Steps.{IsHeld}
use Rattle.map_model.specs.State.{Entry, State, clauses_of, entries_where, is_loaded, live_entries, live_clauses, defined_of, is_among}

-- the clause of an entry with its mark
abbrev pub marked : Entry → Marked
marked e = record { clause = e.clause; mark = e.mark }

-- a definition is not marked
abbrev pub unmarked : Clause → Marked
unmarked c = record { clause = c; mark = false }

abbrev pub live_of : State → List Marked
live_of s = map marked (live_entries s)

-- the loaded clauses with their marks, whether they are live or not, and the kept definitions
abbrev pub base_of : State → List Marked
base_of s = map marked (entries_where is_loaded s.entries) ++ map unmarked s.definitions

-- whether the atom's predicate is defined by a kept definition
abbrev pub defined_by : State → GroundAtom → Bool
defined_by s = defined_in (defined_of s)

abbrev pub IsRanked : State → Type 0
IsRanked s = RankedOver (defined_by s) (base_of s) (live_of s)

-- the loaded clauses, whether they are live or not
abbrev pub loaded_clauses : State → List Clause
loaded_clauses s = clauses_of (entries_where is_loaded s.entries)

-- the predicates of which the clauses of a state speak: the initial ones, and those that are defined
abbrev pub known_of : State → List Pred
known_of s = s.initials ++ defined_of s

-- a kept definition is one of a predicate that is not initial, from at least one atom, each of an initial predicate
pub record IsKeptDefinition (initials : List Pred) (n : Clause) : Type 0 where
  pub held : IsHeld n
  pub canonical : IsCanonical n
  pub fresh : is_among initials (predicate_of n.head) ≡ false
  pub has_atom : 0 < length n.body
  pub of_initials : All (λ t. is_among initials (predicate_of t) ≡ true) n.body

-- What every state of an accepted run is: its live clauses are ranked over its base, the loaded clauses speak of initial
-- predicates alone and the live ones of those and of defined ones, and a predicate has at most one definition.
pub record IsKeptState (s : State) : Type 0 where
  pub ranked : IsRanked s
  pub held : All IsHeld (live_clauses s)
  pub canonical : All IsCanonical (live_clauses s)
  pub known : All (IsKnown (known_of s)) (live_clauses s)
  pub loaded_held : All IsHeld (loaded_clauses s)
  pub loaded_known : All (IsKnown s.initials) (loaded_clauses s)
  pub definitions : All (IsKeptDefinition s.initials) s.definitions
  pub one_each : (m n : Clause) → Contains s.definitions m → Contains s.definitions n → predicate_of m.head ≡ predicate_of n.head → m ≡ n
