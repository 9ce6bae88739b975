-- What printed clauses are parsed as.
use Rattle.std.specs.Prelude.{ℕ, ◌+◌, List, [], ◌∷◌, ◌++◌, length, map, codes}
use Rattle.clp_model.specs.declared.tree.Tree.{Tree}
use Rattle.clp_model.specs.Clauses.{Clause, Row}
use Rattle.clp_model.specs.Canonical.{place_in}
use Rattle.clause_model.specs.Variables.{loose_nums, variables_as_printed}
use Rattle.clp_grammar.specs.declared.draft.Constraint.{Constraint}
use Rattle.clp_grammar.specs.declared.draft.Constraint.TheVariants as constraint
use Rattle.clp_grammar.specs.declared.draft.Goal.{Goal}
use Rattle.clp_grammar.specs.declared.draft.Goal.TheVariants as goal
use Rattle.clp_grammar.specs.declared.draft.Draft.{Draft}
use Rattle.print_model.specs.Joined.{joined}
use Rattle.print_model.specs.Rows.{row_text}
use Rattle.print_model.specs.Clauses.{num_text, program_text}
use Rattle.standing_model.specs.Pieces.{Piece, texts_of, placed}
use Rattle.standing_model.specs.Terms.{atom}
use Rattle.standing_model.specs.Rows.{comparison}

abbrev pub row_constraint : (ℕ → ℕ) → Row → Piece Constraint
row_constraint place row = record { text = row_text row; value = λ after. constraint.Comparison (comparison place row after) }

abbrev pub num_constraint : (ℕ → ℕ) → ℕ → Piece Constraint
num_constraint place n = record { text = num_text n; value = λ after. constraint.Num (place n) }

-- the rows in order, and then the Num variables in no row
abbrev pub constraints : (ℕ → ℕ) → Clause → List (Piece Constraint)
constraints place c = map (row_constraint place) c.rows ++ map (num_constraint place) (loose_nums c)

-- no goal, or all constraints in one pair of braces
abbrev pub braces : List (Piece Constraint) → List (Piece Goal)
braces [] = []
braces (p ∷ ps) = record {
  text = joined (codes "{") (codes ", ") (texts_of (p ∷ ps)) ++ codes "}";
  value = λ after. goal.Braces (placed (codes ", ") (p ∷ ps) (1 + after));
} ∷ []

abbrev pub call : (ℕ → ℕ) → Tree ℕ → Piece Goal
call place t = let a = atom place t in record { text = a.text; value = λ after. goal.Call (a.value after) }

-- the constraints and then the atoms
abbrev pub goals : (ℕ → ℕ) → Clause → List (Piece Goal)
goals place c = braces (constraints place c) ++ map (call place) c.body

abbrev pub body_text : List (Piece Goal) → List ℕ
body_text gs = joined (codes " :- ") (codes ", ") (texts_of gs)

-- The head and the goals, where this many bytes follow, its end among them. Each variable is told by the place of its
-- name among the names that are met.
unfoldable pub draft_of : Clause → ℕ → Draft
draft_of c after =
    let met = variables_as_printed c in
    let gs = goals (place_in met) c in
    record {
      head = (atom (place_in met) c.head).value (length (body_text gs) + after);
      goals = placed (codes ", ") gs after;
      variables = length met;
    }

-- of each clause of a program, where this many bytes follow its text; each ends with `.` and a line feed
unfoldable pub drafts_of : List Clause → ℕ → List Draft
drafts_of [] after = []
drafts_of (c ∷ cs) after = draft_of c (2 + (length (program_text cs) + after)) ∷ drafts_of cs after
