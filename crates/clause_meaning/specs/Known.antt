-- Steps of what is known of a clause.
use Rattle.std.specs.Prelude.{ℕ, ◌-◌, List, [], ◌∷◌, ◌++◌, slice_set}
use Rattle.clp_model.specs.declared.tree.Tree.{Tree}
use Rattle.clause_store.specs.declared.source.SourceClause.{SourceClause}
use Rattle.clp_grammar.specs.Terms.{Meaning, cell}

-- this name has this variable
abbrev pub with_number : ℕ → ℕ → Meaning → Meaning
with_number name number m = record m { numbers = slice_set m.numbers (name - 1) number }

abbrev pub with_atom : Tree ℕ → Meaning → Meaning
with_atom t m = record m { atoms = m.atoms ++ t ∷ [] }

abbrev pub with_equation : Tree ℕ → Tree ℕ → Meaning → Meaning
with_equation first second m = record m { equations = m.equations ++ (first, second) ∷ [] }

-- the clause with this head
abbrev pub clause_of : Tree ℕ → Meaning → SourceClause
clause_of head m = record { head = head; equations = m.equations; rows = m.rows; atoms = m.atoms; sorts = m.sorts }

-- the list of these elements and then of this rest
abbrev pub list_before : List (Tree ℕ) → Tree ℕ → Tree ℕ
list_before [] rest = rest
list_before (t ∷ ts) rest = cell t (list_before ts rest)
