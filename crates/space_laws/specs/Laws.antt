-- White and comments between tokens decide nothing but places.
use Rattle.std.specs.Prelude.{◌≡◌, ◌++◌, ℕ, true, List, [], ◌∷◌, None}
use Rattle.token_model.specs.Remaining.{Remaining, whole}
use Rattle.token_model.specs.Parsers.{value_of}
use Rattle.token_cursor.specs.Utf8.{not_utf8}
use Rattle.token_laws.specs.Laws.{all_white, in_line, stays_open}
use Rattle.clp_grammar.specs.declared.draft.Draft.{Draft}
use Rattle.clp_grammar.specs.Input.{start}
use Rattle.clp_grammar.specs.Drafts.{draft, end, end_or_finish}
use Rattle.clp_grammar.specs.Clauses.{meaning}
use Rattle.clp_grammar.specs.Grammar.{clause_with, program, goal_text}
use Rattle.space_laws.specs.Same.{SameTokens, Matches, ReadsAlike, SameResult, IsSpace, IsPutIn}
use Rattle.space_laws.specs.Moved.{moved_draft, moved_result, moved_value}

-- the places of a clause decide the places of its faults alone
abbrev pub PlacesMeanNothing : Type 0
PlacesMeanNothing = (to : ℕ → ℕ) (d : Draft) → meaning (moved_draft to d) ≡ moved_result to (meaning d)

-- ---- texts of the same tokens, where `to` sends the place of each token in one to its place in the other

-- each clause is parsed as the same draft, at the other places
abbrev pub DraftsAreTheSame : Type 0
DraftsAreTheSame = (to : ℕ → ℕ) (r s : Remaining) → Matches to r s → value_of (draft end (start s)) ≡ moved_value to (moved_draft to) (value_of (draft end (start r)))

-- stands for the same source clause, and leaves texts of the same tokens
abbrev pub ClausesAreTheSame : Type 0
ClausesAreTheSame = (to : ℕ → ℕ) (r s : Remaining) → Matches to r s → ReadsAlike to (clause_with end r) (clause_with end s)

-- also where the end may be missing
abbrev pub LastClausesAreTheSame : Type 0
LastClausesAreTheSame = (to : ℕ → ℕ) (r s : Remaining) → Matches to r s → ReadsAlike to (clause_with end_or_finish r) (clause_with end_or_finish s)

abbrev pub ProgramsAreTheSame : Type 0
ProgramsAreTheSame = (to : ℕ → ℕ) (text other : List ℕ) → not_utf8 text ≡ None → not_utf8 other ≡ None → Matches to (whole text) (whole other) → program other ≡ moved_result to (program text)

abbrev pub GoalsAreTheSame : Type 0
GoalsAreTheSame = (to : ℕ → ℕ) (text other : List ℕ) → not_utf8 text ≡ None → not_utf8 other ≡ None → Matches to (whole text) (whole other) → goal_text other ≡ moved_result to (goal_text text)

-- ---- with no places named

-- the same clauses, or a fault of the same kind at the same token
abbrev pub SpacesChangeNoProgram : Type 0
SpacesChangeNoProgram = (text other : List ℕ) → not_utf8 text ≡ None → not_utf8 other ≡ None → SameTokens (whole text) (whole other) → SameResult (whole text) (whole other) (program text) (program other)

abbrev pub SpacesChangeNoGoal : Type 0
SpacesChangeNoGoal = (text other : List ℕ) → not_utf8 text ≡ None → not_utf8 other ≡ None → SameTokens (whole text) (whole other) → SameResult (whole text) (whole other) (goal_text text) (goal_text other)

-- white or a comment that is put in between two tokens keeps all tokens
abbrev pub SpaceKeepsTokens : Type 0
SpaceKeepsTokens = (space : List ℕ) (n : ℕ) (r s : Remaining) → IsSpace space → IsPutIn space n r s → SameTokens r s

-- so a program stays the same where it is put in between what stands before and after
abbrev pub SpaceBetweenChangesNothing : Type 0
SpaceBetweenChangesNothing = (before space after : List ℕ) (n : ℕ) → not_utf8 (before ++ after) ≡ None → not_utf8 (before ++ space ++ after) ≡ None → IsSpace space
    → IsPutIn space n (whole (before ++ after)) (whole (before ++ space ++ after))
    → SameResult (whole (before ++ after)) (whole (before ++ space ++ after)) (program (before ++ after)) (program (before ++ space ++ after))

-- ---- what white and comments are

abbrev pub WhiteIsSpace : Type 0
WhiteIsSpace = (white : List ℕ) → all_white white ≡ true → IsSpace white

-- from `%` to the next line feed
abbrev pub LineIsSpace : Type 0
LineIsSpace = (line : List ℕ) → in_line line ≡ true → IsSpace (37 ∷ (line ++ 10 ∷ []))

-- from `/*` to the next `*/`
abbrev pub CommentIsSpace : Type 0
CommentIsSpace = (inside : List ℕ) → stays_open inside ≡ true → IsSpace (47 ∷ 42 ∷ (inside ++ 42 ∷ 47 ∷ []))

abbrev pub SpacesAreSpace : Type 0
SpacesAreSpace = (space more : List ℕ) → IsSpace space → IsSpace more → IsSpace (space ++ more)
