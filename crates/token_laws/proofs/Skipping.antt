-- White and comments in front of a text.
use Rattle.std.proofs.Common.{◌≡◌, ℕ, Bool, true, false, ◌&&◌, cond, List, [], ◌∷◌, ◌++◌, refl}
use Rattle.std.specs.Prelude.{◌==◌}
use Rattle.token_model.specs.White.{is_white, skipped, after_line, after_slash, in_comment, after_star}
use Rattle.token_laws.specs.Laws.{all_white, in_line, stays_open, open_after_star, WhiteChangesNothing, LineChangesNothing, CommentChangesNothing}

pub white : WhiteChangesNothing
unfolding skipped
white [] text h = refl
white (b ∷ bs) text h = go (is_white b) h (white bs text)
  where
    go : (t : Bool) → (t && all_white bs) ≡ true → (all_white bs ≡ true → skipped (bs ++ text) ≡ skipped text)
        → cond t (skipped (bs ++ text)) (cond (b == 37) (after_line (bs ++ text)) (cond (b == 47) (after_slash (bs ++ text)) (b ∷ (bs ++ text)))) ≡ skipped text
    go true h rest = rest h
    go false h rest = cc

line_after : (line text : List ℕ) → in_line line ≡ true → after_line (line ++ 10 ∷ text) ≡ skipped text
unfolding after_line
line_after [] text h = refl
line_after (b ∷ bs) text h = go (b == 10) h (line_after bs text)
  where
    go : (t : Bool) → cond t false (in_line bs) ≡ true → (in_line bs ≡ true → after_line (bs ++ 10 ∷ text) ≡ skipped text)
        → cond t (skipped (bs ++ 10 ∷ text)) (after_line (bs ++ 10 ∷ text)) ≡ skipped text
    go true h rest = cc
    go false h rest = rest h

pub line : LineChangesNothing
unfolding skipped
line bs text h = line_after bs text h

mutual
  unfolding in_comment after_star

  comment_after : (whole inside text : List ℕ) → stays_open inside ≡ true → in_comment whole (inside ++ 42 ∷ 47 ∷ text) ≡ skipped text
  comment_after whole [] text h = refl
  comment_after whole (b ∷ bs) text h = go (b == 42) h (star_after whole bs text) (comment_after whole bs text)
    where
      go : (t : Bool) → cond t (open_after_star bs) (stays_open bs) ≡ true
          → (open_after_star bs ≡ true → after_star whole (bs ++ 42 ∷ 47 ∷ text) ≡ skipped text) → (stays_open bs ≡ true → in_comment whole (bs ++ 42 ∷ 47 ∷ text) ≡ skipped text)
          → cond t (after_star whole (bs ++ 42 ∷ 47 ∷ text)) (in_comment whole (bs ++ 42 ∷ 47 ∷ text)) ≡ skipped text
      go true h s k = s h
      go false h s k = k h

  star_after : (whole inside text : List ℕ) → open_after_star inside ≡ true → after_star whole (inside ++ 42 ∷ 47 ∷ text) ≡ skipped text
  star_after whole [] text h = refl
  star_after whole (b ∷ bs) text h = go (b == 47) (b == 42) h (star_after whole bs text) (comment_after whole bs text)
    where
      go : (t u : Bool) → cond t false (cond u (open_after_star bs) (stays_open bs)) ≡ true
          → (open_after_star bs ≡ true → after_star whole (bs ++ 42 ∷ 47 ∷ text) ≡ skipped text) → (stays_open bs ≡ true → in_comment whole (bs ++ 42 ∷ 47 ∷ text) ≡ skipped text)
          → cond t (skipped (bs ++ 42 ∷ 47 ∷ text)) (cond u (after_star whole (bs ++ 42 ∷ 47 ∷ text)) (in_comment whole (bs ++ 42 ∷ 47 ∷ text))) ≡ skipped text
      go true u h s k = cc
      go false true h s k = s h
      go false false h s k = k h

pub comment : CommentChangesNothing
unfolding skipped after_slash
comment inside text h = comment_after (47 ∷ 42 ∷ (inside ++ 42 ∷ 47 ∷ text)) inside text h
