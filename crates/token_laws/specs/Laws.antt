-- What white and comments change, and which mark is taken.
use Rattle.std.specs.Prelude.{◌≡◌, ◌≤◌, ◌⊎◌, length, ℕ, Bool, true, false, ◌&&◌, if◌then◌else◌, ◌==◌, List, [], ◌∷◌, ◌++◌}
use Rattle.token_model.specs.declared.token.Lexeme.{Lexeme}
use Rattle.token_model.specs.Marks.{begins_with, mark, marks}
use Rattle.token_model.specs.White.{is_white, skipped}

abbrev pub all_white : List ℕ → Bool
all_white [] = true
all_white (b ∷ bs) = is_white b && all_white bs

-- there is no line feed
abbrev pub in_line : List ℕ → Bool
in_line [] = true
in_line (b ∷ bs) = if b == 10 then false else in_line bs

-- there is no `*/`; and none is ended by the first byte, after a `*`
abbrev mutual
  pub stays_open : List ℕ → Bool
  stays_open [] = true
  stays_open (b ∷ bs) = if b == 42 then open_after_star bs else stays_open bs

  pub open_after_star : List ℕ → Bool
  open_after_star [] = true
  open_after_star (b ∷ bs) = if b == 47 then false else (if b == 42 then open_after_star bs else stays_open bs)

abbrev pub WhiteChangesNothing : Type 0
WhiteChangesNothing = (white text : List ℕ) → all_white white ≡ true → skipped (white ++ text) ≡ skipped text

abbrev pub LineChangesNothing : Type 0
LineChangesNothing = (line text : List ℕ) → in_line line ≡ true → skipped (37 ∷ (line ++ 10 ∷ text)) ≡ skipped text

abbrev pub CommentChangesNothing : Type 0
CommentChangesNothing = (inside text : List ℕ) → stays_open inside ≡ true → skipped (47 ∷ 42 ∷ (inside ++ 42 ∷ 47 ∷ text)) ≡ skipped text

-- it is one of these
abbrev pub IsOneOf : List ℕ × Lexeme → List (List ℕ × Lexeme) → Type 0
IsOneOf m [] = ⊥
IsOneOf m (n ∷ ns) = (m ≡ n) ⊎ IsOneOf m ns

-- each mark with which a text begins is at most as long as the one that is taken
abbrev pub LongestMarkIsTaken : Type 0
LongestMarkIsTaken = (m : List ℕ × Lexeme) (text : List ℕ) → IsOneOf m marks → begins_with m.0 text ≡ true → length m.0 ≤ (mark text).len
