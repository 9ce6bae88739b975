-- The laws of what stands for printed rows and clauses.
use Rattle.std.specs.Prelude.{◌≡◌, ℕ, true, ◌∷◌, All, Contains, Ok}
use Rattle.linear_model.specs.Normal.{normal, IsNormal, is_within}
use Rattle.linear_model.specs.Changes.{renamed}
use Rattle.clp_model.specs.declared.tree.Tree.{Tree}
use Rattle.clp_model.specs.Trees.{IsApplication}
use Rattle.clp_model.specs.Clauses.{Clause, Row}
use Rattle.clp_model.specs.Predicates.{predicate_of}
use Rattle.clause_model.specs.Variables.{row_variables}
use Rattle.clause_model.specs.Canonical.{IsCanonical}
use Rattle.clause_model.specs.Solved.{RowsAreNum}
use Rattle.clause_model.specs.Source.{source_of}
use Rattle.clause_store.specs.declared.source.SourceClause.{SourceClause}
use Rattle.clause_store.specs.Source.{meaning_of}
use Rattle.clp_grammar.specs.Evaluation.{row_of}
use Rattle.clp_grammar.specs.Clauses.{meaning}
use Rattle.standing_model.specs.Names.{is_ordinary}
use Rattle.standing_model.specs.Rows.{comparison}
use Rattle.standing_model.specs.Clauses.{draft_of}

-- ---- rows

-- what stands for a row in normal form and in range is the row, where the place of each variable has its number
abbrev pub StandingRowsHaveTheirValue : Type 0
StandingRowsHaveTheirValue =
    (number_of place : ℕ → ℕ) (row : Row) (after : ℕ) → IsNormal row → is_within row ≡ true → All (λ n. number_of (place n) ≡ n) (row_variables row)
    → row_of number_of (comparison place row after) ≡ Ok row

-- or else the row in new numbers, where they keep its variables apart
abbrev pub RenumberedRowsHaveTheirValue : Type 0
RenumberedRowsHaveTheirValue =
    (number_of place f : ℕ → ℕ) (row : Row) (after : ℕ) → IsNormal row → is_within row ≡ true → All (λ n. number_of (place n) ≡ f n) (row_variables row)
    → ((m n : ℕ) → Contains (row_variables row) m → Contains (row_variables row) n → f m ≡ f n → m ≡ n)
    → row_of number_of (comparison place row after) ≡ Ok (normal (renamed f row))

-- ---- clauses

-- an application that is not `true` without arguments
abbrev pub IsOrdinary : Tree ℕ → Type 0
IsOrdinary t = IsApplication t × (is_ordinary (predicate_of t) ≡ true)

-- What stands for a canonical clause means the source of the clause. The variables of its rows are numbers: those of rows
-- that are read always are.
abbrev pub StandingClausesHaveTheirMeaning : Type 0
StandingClausesHaveTheirMeaning =
    (c : Clause) (after : ℕ) → IsCanonical c → RowsAreNum c → All IsOrdinary (c.head ∷ c.body)
    → (s : SourceClause) × (meaning (draft_of c after) ≡ Ok s) × (meaning_of s ≡ source_of c)
