-- The laws of printed programs that are parsed.
use Rattle.std.specs.Prelude.{◌≡◌, ◌≤◌, ◌+◌, ℕ, true, false, List, [], ◌∷◌, ◌++◌, length, codes, All, Ok}
use Rattle.token_model.specs.White.{skipped}
use Rattle.token_model.specs.Remaining.{Remaining, ahead}
use Rattle.linear_model.specs.Normal.{is_within}
use Rattle.clp_model.specs.declared.tree.Tree.{Tree}
use Rattle.clp_model.specs.Clauses.{Clause, Row}
use Rattle.clp_model.specs.Trees.{depth, variables}
use Rattle.clause_model.specs.Variables.{row_variables, variables_as_printed}
use Rattle.clp_grammar.specs.declared.draft.Draft.{Draft}
use Rattle.clp_grammar.specs.Input.{Input, start}
use Rattle.clp_grammar.specs.Expressions.{expression}
use Rattle.clp_grammar.specs.Goals.{comparison}
use Rattle.clp_grammar.specs.Drafts.{end, draft}
use Rattle.print_model.specs.Joined.{joined}
use Rattle.print_model.specs.Terms.{term_text, atom_text}
use Rattle.print_model.specs.Rows.{row_text}
use Rattle.print_model.specs.Clauses.{goals, program_text}
use Rattle.standing_model.specs.Terms.{standing}
use Rattle.standing_model.specs.Rows as rows
use Rattle.standing_model.specs.Clauses.{draft_of, drafts_of}
use Rattle.standing_model.specs.Parsable.{HasShortNames, IsParsable}
use Rattle.parsing_laws.specs.Places.{at, known, met, Placed}
use Rattle.parsing_laws.specs.Behind.{behind, ends, Stops, IsEndBefore}

-- ---- terms and rows

-- A printed term is parsed as the expression that stands for it, where as many brackets may be open as it is deep, its
-- variables have their places, and no expression goes on behind it.
abbrev pub PrintedTermsAreParsed : Type 0
PrintedTermsAreParsed =
    (place : ℕ → ℕ) (t : Tree ℕ) (more : ℕ) (ms : List ℕ) (r : Remaining) (text : List ℕ) → HasShortNames t → depth t ≤ more → Placed place ms (variables t)
    → ahead r ≡ term_text t ++ text → Stops ends text
    → expression more (at r (known ms)) ≡ Ok ((standing place t).whole (length text), at (behind text false) (known (met ms (variables t))))

-- a printed row is parsed as the comparison that stands for it
abbrev pub PrintedRowsAreParsed : Type 0
PrintedRowsAreParsed =
    (place : ℕ → ℕ) (row : Row) (more : ℕ) (ms : List ℕ) (r : Remaining) (text : List ℕ) → is_within row ≡ true → Placed place ms (row_variables row)
    → ahead r ≡ row_text row ++ text → Stops ends text
    → comparison more (at r (known ms)) ≡ Ok (rows.comparison place row (length text), at (behind text true) (known (met ms (row_variables row))))

-- ---- clauses and programs

-- a printed clause and its end are parsed as the draft that stands for the clause
abbrev pub PrintedClausesAreParsed : Type 0
PrintedClausesAreParsed =
    (c : Clause) (r : Remaining) (text : List ℕ) → IsParsable c → IsEndBefore text
    → ahead r ≡ atom_text c.head ++ (joined (codes " :- ") (codes ", ") (goals c) ++ 46 ∷ text)
    → draft end (start r) ≡ Ok (draft_of c (1 + length text), at (behind text false) (known (variables_as_printed c)))

-- one draft after another is parsed, from what remains first to what remains last
abbrev pub AreDrafts : Remaining → List Draft → Remaining → Type 0
AreDrafts r [] s = r ≡ s
AreDrafts r (d ∷ ds) s = (i : Input) × (draft end (start r) ≡ Ok (d, i)) × AreDrafts i.remaining ds s

-- a printed program is parsed as the drafts of its clauses, and then what follows it remains
abbrev pub PrintedProgramsAreParsed : Type 0
PrintedProgramsAreParsed =
    (cs : List Clause) (r : Remaining) (text : List ℕ) → All IsParsable cs → ahead r ≡ skipped (program_text cs ++ text)
    → (s : Remaining) × AreDrafts r (drafts_of cs (length text)) s × (ahead s ≡ skipped text)
