-- The laws of printed programs that are read and loaded again.
use Rattle.std.specs.Prelude.{◌≡◌, ◌≤◌, ℕ, false, List, ◌∷◌, ◌++◌, map, length, codes, All, IsUtf8, Some, Ok}
use Rattle.std.specs.Str.{is_utf8}
use Rattle.clp_model.specs.Clauses.{Clause}
use Rattle.clp_model.specs.Predicates.{initial_predicates}
use Rattle.clause_model.specs.Canonical.{IsCanonical}
use Rattle.clause_model.specs.Solved.{RowsAreNum}
use Rattle.clause_model.specs.Load.{load, sizes_of}
use Rattle.clause_model.specs.Source.{source_of}
use Rattle.clause_laws.specs.Laws.{AllNum}
use Rattle.clause_store.specs.declared.source.SourceClause.{SourceClause}
use Rattle.clause_store.specs.Source.{meaning_of}
use Rattle.name_laws.specs.Names.{AreOver}
use Rattle.token_model.specs.White.{skipped}
use Rattle.token_model.specs.Remaining.{Remaining, ahead}
use Rattle.clp_grammar.specs.Grammar.{clause, program, max_clauses}
use Rattle.print_model.specs.Joined.{joined}
use Rattle.print_model.specs.Terms.{atom_text}
use Rattle.print_model.specs.Clauses.{goals, program_text}
use Rattle.parsing_laws.specs.Behind.{behind, IsEndBefore}
use Rattle.standing_model.specs.Names.{is_short, is_ordinary}

-- A canonical clause whose text is read as its source.
pub record IsPrintable (c : Clause) : Type 0 where
  pub canonical : IsCanonical c
  -- no name is too long, and no head or atom is a variable or `true` without arguments
  pub over : AreOver is_short is_ordinary c
  -- names are in UTF-8
  pub texts : AreOver is_utf8 is_ordinary c
  -- variables of rows that are read are numbers
  pub nums : RowsAreNum c

-- what is printed is in UTF-8
abbrev pub PrintedProgramsAreTexts : Type 0
PrintedProgramsAreTexts = (cs : List Clause) → All IsPrintable cs → IsUtf8 (program_text cs)

-- the text of at most so many clauses is read as the sources of these clauses
abbrev pub PrintedProgramsAreReadAgain : Type 0
PrintedProgramsAreReadAgain =
    (cs : List Clause) → length cs ≤ max_clauses → All IsPrintable cs
    → (source : List SourceClause) × (program (program_text cs) ≡ Ok source) × (map meaning_of source ≡ map source_of cs)

-- the text of clauses within the limits is read, and what is read is loaded as these clauses
abbrev pub PrintedProgramsAreLoadedAgain : Type 0
PrintedProgramsAreLoadedAgain =
    (cs : List Clause) → length cs ≤ max_clauses → All IsPrintable cs → sizes_of (map Some cs) ≤ 8388608
    → (source : List SourceClause) × (program (program_text cs) ≡ Ok source) × AllNum (map meaning_of source)
    × (load (map meaning_of source) ≡ Ok (record { clauses = map Some cs; predicates = initial_predicates cs }))

-- ---- the sources of clauses

-- the text of a clause without its end
abbrev pub unended_text : Clause → List ℕ
unended_text c = atom_text c.head ++ joined (codes " :- ") (codes ", ") (goals c)

-- what is printed of the source of a clause is in UTF-8
abbrev pub PrintedSourcesAreTexts : Type 0
PrintedSourcesAreTexts = (c : Clause) → IsPrintable c → IsUtf8 (unended_text (source_of c))

-- The text of the source and a `.` are read as just this source, where what follows makes the `.` an end: its variables are
-- numbered as they are met.
abbrev pub PrintedSourcesAreThemselves : Type 0
PrintedSourcesAreThemselves =
    (c : Clause) (r : Remaining) (text : List ℕ) → IsPrintable c → IsEndBefore text → ahead r ≡ skipped (unended_text (source_of c) ++ 46 ∷ text)
    → (s : SourceClause) × (clause r ≡ Ok (s, behind text false)) × (meaning_of s ≡ source_of c)
