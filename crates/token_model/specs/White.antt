-- White and comments, which stand between tokens.
use Rattle.std.specs.Prelude.{ℕ, Bool, ◌||◌, if◌then◌else◌, ◌==◌, List, [], ◌∷◌}

-- a space, a tab, a line feed or a carriage return
abbrev pub is_white : ℕ → Bool
is_white b = b == 32 || b == 9 || b == 10 || b == 13

-- The text after white and comments. A comment runs from `%` to the line feed or the end, or from `/*` to the next
-- `*/`; a text in which it isn't closed stays at its `/*`.
unfoldable mutual
  pub skipped : List ℕ → List ℕ
  skipped [] = []
  skipped (b ∷ text) =
      if is_white b then skipped text
      else (if b == 37 then after_line text
      else (if b == 47 then after_slash text
      else b ∷ text))

  -- after a line's end
  pub after_line : List ℕ → List ℕ
  after_line [] = []
  after_line (b ∷ text) = if b == 10 then skipped text else after_line text

  -- after a comment, where a `*` follows the slash
  pub after_slash : List ℕ → List ℕ
  after_slash [] = 47 ∷ []
  after_slash (b ∷ text) = if b == 42 then in_comment (47 ∷ 42 ∷ text) text else 47 ∷ b ∷ text

  -- within a comment that begins with this text
  pub in_comment : List ℕ → List ℕ → List ℕ
  in_comment whole [] = whole
  in_comment whole (b ∷ text) = if b == 42 then after_star whole text else in_comment whole text

  -- within it, after a `*`
  pub after_star : List ℕ → List ℕ → List ℕ
  after_star whole [] = whole
  after_star whole (b ∷ text) =
      if b == 47 then skipped text
      else (if b == 42 then after_star whole text
      else in_comment whole text)
