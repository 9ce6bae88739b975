-- What holds of all that is read, and of the rows of comparisons.
use Rattle.std.specs.Prelude.{◌≡◌, ◌<◌, ◌≤◌, ◌^◌, ℕ, Bool, true, List, length, All, Ok}
use Rattle.clp_model.specs.Clauses.{Row}
use Rattle.linear_model.specs.Normal.{IsNormal, is_within}
use Rattle.clause_model.specs.Variables.{row_variables}
use Rattle.clause_store.specs.declared.source.SourceClause.{SourceClause}
use Rattle.clp_grammar.specs.declared.draft.Comparison.{Comparison}
use Rattle.clp_grammar.specs.declared.draft.Draft.{Draft}
use Rattle.clp_grammar.specs.Evaluation.{row_of}
use Rattle.clp_grammar.specs.Clauses.{meaning}
use Rattle.clp_grammar.specs.Grammar.{max_clauses, program, goal_text, clause_at}
use Rattle.draft_laws.specs.Formed.{IsNumbered, IsFormedComparison, IsFormedDraft}
use Rattle.grammar_laws.specs.Read.{IsReadClause}

-- ---- clauses

abbrev pub ReadProgramsCanBeLoaded : Type 0
ReadProgramsCanBeLoaded = (text : List ℕ) (cs : List SourceClause) → length text < 2 ^ 32 → program text ≡ Ok cs → All IsReadClause cs × (length cs ≤ max_clauses)

abbrev pub ReadGoalsCanBeLoaded : Type 0
ReadGoalsCanBeLoaded = (text : List ℕ) (c : SourceClause) → length text < 2 ^ 32 → goal_text text ≡ Ok c → IsReadClause c

-- also a clause that stands within a text
abbrev pub ReadClausesCanBeLoaded : Type 0
ReadClausesCanBeLoaded = (text : List ℕ) (at : ℕ) (c : SourceClause) (end : ℕ) → length text < 2 ^ 32 → clause_at text at ≡ Ok (c, end) → IsReadClause c

abbrev pub FormedDraftsCanBeLoaded : Type 0
FormedDraftsCanBeLoaded = (d : Draft) (c : SourceClause) → IsFormedDraft d → meaning d ≡ Ok c → IsReadClause c

-- ---- rows

-- the row of a comparison is in normal form and in range
abbrev pub RowsAreKept : Type 0
RowsAreKept = (number_of : ℕ → ℕ) (c : Comparison) (row : Row) → row_of number_of c ≡ Ok row → IsNormal row × (is_within row ≡ true)

-- its variables pass a test that those of the names of the comparison pass
abbrev pub RowsHaveTheVariables : Type 0
RowsHaveTheVariables = (p : ℕ → Bool) (number_of : ℕ → ℕ) (count : ℕ) (c : Comparison) (row : Row) → IsFormedComparison count c
    → ((n : ℕ) → IsNumbered count n → p (number_of n) ≡ true) → row_of number_of c ≡ Ok row → All (λ v. p v ≡ true) (row_variables row)
