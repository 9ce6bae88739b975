-- White and comments are skipped byte by byte, and end after a byte that is ASCII.
use Rattle.std.proofs.Common.{◌≡◌, ℕ, ◌+◌, ◌-◌, ◌<◌, Bool, true, false, cond, List, [], ◌∷◌, ◌++◌, length, drop, get_or, IsUtf8, refl, sym, ap, ◌∙◌, subst, arith, append_assoc, length-drop, drop-drop, drop_at, drop_of_length-le, get_or-append-add, add-zero}
use Rattle.std.proofs.lemmas.Bool.Decides.{nat_tests}
use Rattle.std.proofs.lemmas.Bool.{cases_lt}
use Rattle.std.proofs.lemmas.Str.{IsUtf8-nil, IsUtf8-drop, IsCharBoundary-after_ascii, IsCharBoundary-before_ascii}
use Rattle.std.specs.Prelude.{◌==◌}
use Rattle.std.proofs.Common.{inl, inr}
use Rattle.token_model.specs.White.{is_white, skipped, after_line, after_slash, in_comment, after_star}

-- what is kept where white and comments are skipped: of the text at their beginning and their end, and within a comment
pub record Keeps : Type 1 where
  pub Outside : List ℕ → Type 0
  pub Inside : List ℕ → Type 0
  pub empty : Outside []
  pub begins : (z : List ℕ) → Outside z → Inside z
  pub further : (b : ℕ) (z : List ℕ) → Inside (b ∷ z) → Inside z
  pub ends : (b : ℕ) (z : List ℕ) → b < 128 → Inside (b ∷ z) → Outside z

white_low : (b : ℕ) → is_white b ≡ true → b < 128
white_low b e = grind (arith, nat_tests)

pub low_if : (b k : ℕ) → (b == k) ≡ true → k < 128 → b < 128
low_if b k e h = grind (arith, nat_tests)

same_if : (b k : ℕ) → (b == k) ≡ true → b ≡ k
same_if b k e = grind (arith, nat_tests)

mutual
  unfolding skipped after_line after_slash in_comment after_star

  pub skipping_keeps : (k : Keeps) (z : List ℕ) → k.Outside z → k.Outside (skipped z)
  skipping_keeps k [] p = p
  skipping_keeps k (b ∷ z) p = go (is_white b) refl (b == 37) (b == 47) refl (skipping_keeps k z) (line_keeps k z (k.further b z (k.begins (b ∷ z) p))) (slash_keeps k z)
    where
      go : (t : Bool) → is_white b ≡ t → (u v : Bool) → (b == 47) ≡ v → (k.Outside z → k.Outside (skipped z)) → k.Outside (after_line z) → (k.Outside (47 ∷ z) → k.Outside (after_slash z))
          → k.Outside (cond t (skipped z) (cond u (after_line z) (cond v (after_slash z) (b ∷ z))))
      go true e u v f s n c = s (k.ends b z (white_low b e) (k.begins (b ∷ z) p))
      go false e true v f s n c = n
      go false e false true f s n c = c (subst (λ (x : ℕ). k.Outside (x ∷ z)) (same_if b 47 f) p)
      go false e false false f s n c = p

  line_keeps : (k : Keeps) (z : List ℕ) → k.Inside z → k.Outside (after_line z)
  line_keeps k [] p = k.empty
  line_keeps k (b ∷ z) p = go (b == 10) refl (skipping_keeps k z) (line_keeps k z (k.further b z p))
    where
      go : (t : Bool) → (b == 10) ≡ t → (k.Outside z → k.Outside (skipped z)) → k.Outside (after_line z) → k.Outside (cond t (skipped z) (after_line z))
      go true e s n = s (k.ends b z (low_if b 10 e (omega arith)) p)
      go false e s n = n

  slash_keeps : (k : Keeps) (z : List ℕ) → k.Outside (47 ∷ z) → k.Outside (after_slash z)
  slash_keeps k [] p = p
  slash_keeps k (b ∷ z) p = go (b == 42) refl (comment_keeps k (47 ∷ 42 ∷ z) z)
    where
      go : (t : Bool) → (b == 42) ≡ t → (k.Outside (47 ∷ 42 ∷ z) → k.Inside z → k.Outside (in_comment (47 ∷ 42 ∷ z) z)) → k.Outside (cond t (in_comment (47 ∷ 42 ∷ z) z) (47 ∷ b ∷ z))
      go true e c = c (subst (λ (x : ℕ). k.Outside (47 ∷ x ∷ z)) (same_if b 42 e) p) (k.further b z (k.further 47 (b ∷ z) (k.begins (47 ∷ b ∷ z) p)))
      go false e c = p

  comment_keeps : (k : Keeps) (whole z : List ℕ) → k.Outside whole → k.Inside z → k.Outside (in_comment whole z)
  comment_keeps k whole [] w p = w
  comment_keeps k whole (b ∷ z) w p = go (b == 42) (star_keeps k whole z w (k.further b z p)) (comment_keeps k whole z w (k.further b z p))
    where
      go : (t : Bool) → k.Outside (after_star whole z) → k.Outside (in_comment whole z) → k.Outside (cond t (after_star whole z) (in_comment whole z))
      go true s c = s
      go false s c = c

  star_keeps : (k : Keeps) (whole z : List ℕ) → k.Outside whole → k.Inside z → k.Outside (after_star whole z)
  star_keeps k whole [] w p = w
  star_keeps k whole (b ∷ z) w p = go (b == 47) refl (b == 42) (skipping_keeps k z) (star_keeps k whole z w (k.further b z p)) (comment_keeps k whole z w (k.further b z p))
    where
      go : (t : Bool) → (b == 47) ≡ t → (u : Bool) → (k.Outside z → k.Outside (skipped z)) → k.Outside (after_star whole z) → k.Outside (in_comment whole z)
          → k.Outside (cond t (skipped z) (cond u (after_star whole z) (in_comment whole z)))
      go true e u n s c = n (k.ends b z (low_if b 47 e (omega arith)) p)
      go false e true n s c = s
      go false e false n s c = c

-- ---- UTF-8

after_low : (b : ℕ) (z : List ℕ) → b < 128 → IsUtf8 (b ∷ z) → IsUtf8 z
after_low b z low u = IsUtf8-drop (b ∷ z) 1 u (IsCharBoundary-after_ascii (b ∷ z) 0 u (omega arith) low)

from_low : (front : List ℕ) (b : ℕ) (z : List ℕ) → b < 128 → IsUtf8 (front ++ b ∷ z) → IsUtf8 (b ∷ z)
from_low front b z low u = subst IsUtf8 there (IsUtf8-drop w (length front) u (IsCharBoundary-before_ascii w (length front) within low_there))
  where
    w : List ℕ
    w = front ++ b ∷ z

    there : drop (length front) (front ++ b ∷ z) ≡ b ∷ z
    there = drop_at front (b ∷ z) (length front) refl

    within : length front < length (front ++ b ∷ z)
    within = omega (arith, ap length there, length-drop (length front) (front ++ b ∷ z))

    low_there : get_or (front ++ b ∷ z) (length front) 0 < 128
    low_there = subst (λ (x : ℕ). get_or (front ++ b ∷ z) x 0 < 128) (add-zero (length front)) (rw get_or-append-add low)

-- the end of a text in UTF-8
abbrev IsEndOfText : List ℕ → Type 0
IsEndOfText z = (front : List ℕ) × IsUtf8 (front ++ z)

abbrev keeps_text : Keeps
keeps_text = record {
  Outside = IsUtf8;
  Inside = IsEndOfText;
  empty = IsUtf8-nil;
  begins = λ z u. ([], u);
  further = λ b z e. (e.0 ++ b ∷ [], subst IsUtf8 (sym (append_assoc e.0 (b ∷ []) z)) e.1);
  ends = λ b z low e. after_low b z low (from_low e.0 b z low e.1);
}

-- after white and comments a text is still one
pub skipped_is_text : (z : List ℕ) → IsUtf8 z → IsUtf8 (skipped z)
skipped_is_text z u = skipping_keeps keeps_text z u

-- ---- places

abbrev IsEndOf : List ℕ → List ℕ → Type 0
IsEndOf w z = (n : ℕ) × (z ≡ drop n w)

shorter : (w : List ℕ) (b : ℕ) (z : List ℕ) → IsEndOf w (b ∷ z) → IsEndOf w z
shorter w b z e = (e.0 + 1, ap (drop 1) e.1 ∙ drop-drop 1 e.0 w)

abbrev keeps_end : List ℕ → Keeps
keeps_end w = record {
  Outside = IsEndOf w;
  Inside = IsEndOf w;
  empty = (length w, sym (drop_of_length-le w {i = length w} (omega arith)));
  begins = λ z e. e;
  further = shorter w;
  ends = λ b z low e. shorter w b z e;
}

by_length : (w z : List ℕ) → IsEndOf w z → z ≡ drop (length w - length z) w
by_length w z e = elim (cases_lt (length w) e.0) [
  | inl over ↦ let none : drop e.0 w ≡ [] = drop_of_length-le w {i = e.0} (omega arith) in
      let zero : length z ≡ 0 = ap length (e.1 ∙ none) in
      e.1 ∙ none ∙ sym (drop_of_length-le w {i = length w - length z} (omega arith))
  | inr within ↦ let n : length w - length z ≡ e.0 = omega (arith, ap length e.1, length-drop e.0 w) in
      e.1 ∙ ap (λ (m : ℕ). drop m w) (sym n)
]

-- what follows white and comments is the end of the text
pub skipped_is_end : (z : List ℕ) → skipped z ≡ drop (length z - length (skipped z)) z
skipped_is_end z = by_length z (skipped z) (skipping_keeps (keeps_end z) z (0, refl))
