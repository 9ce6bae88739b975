-- A token that is not a bad one begins and ends with a byte that is ASCII.
use Rattle.std.proofs.Common.{◌≡◌, ◌≢◌, ℕ, suc, ◌<◌, Bool, true, false, ◌&&◌, cond, List, [], ◌∷◌, length, get_or, refl, ap, arith}
use Rattle.std.proofs.lemmas.Bool.{and_parts}
use Rattle.std.proofs.lemmas.Bool.Decides.{nat_tests}
use Rattle.std.specs.Char.{is_ascii_digit}
use Rattle.std.specs.Prelude.{◌==◌, nat_lt, Option, Some, None, option_map, IfSome}
use Rattle.token_model.specs.declared.token.Lexeme.{Lexeme}
use Rattle.token_model.specs.declared.token.Lexeme.TheVariants as l
use Rattle.token_model.specs.declared.token.Token.{Token}
use Rattle.token_model.specs.Numbers.{digits_len, number}
use Rattle.token_model.specs.Names.{word, is_word, word_len, quoted, quoted_by, closing, after_quote, after_backslash, is_escape, or_here}
use Rattle.token_model.specs.Marks.{mark, marks, dot, first_of, begins_with}
use Rattle.token_model.specs.Tokens.{token}
use Rattle.token_cursor.proofs.Spelled.{Begins, by_first, lower_word, upper_word}
use Rattle.utf8_laws.proofs.Skipping.{low_if}

-- the first bytes of the text, so many, end with one that is ASCII
abbrev pub EndsLow : List ℕ → ℕ → Type 0
EndsLow z n = (last : ℕ) × (n ≡ suc last) × (last < length z) × (get_or z last 0 < 128)

first_low : (b : ℕ) (z : List ℕ) → b < 128 → EndsLow (b ∷ z) 1
first_low b z low = (0, refl, omega arith, low)

one_more : (b : ℕ) (z : List ℕ) (n : ℕ) → EndsLow z n → EndsLow (b ∷ z) (suc n)
one_more b z n e = (suc e.0, ap suc e.1, omega (arith, e.2), e.3)

-- ---- words and numbers

word_low : (b : ℕ) → is_word b ≡ true → b < 128
word_low b e = grind (arith, nat_tests)

digit_low : (b : ℕ) → is_ascii_digit b ≡ true → b < 128
digit_low b e = grind (arith, nat_tests)

word_on : (b : ℕ) (z : List ℕ) → b < 128 → EndsLow (b ∷ z) (suc (word_len z))
word_on b [] low = first_low b [] low
word_on b (c ∷ z) low = go (is_word c) refl (word_on c z)
  where
    go : (t : Bool) → is_word c ≡ t → (c < 128 → EndsLow (c ∷ z) (suc (word_len z))) → EndsLow (b ∷ c ∷ z) (suc (cond t (suc (word_len z)) 0))
    go true e rest = one_more b (c ∷ z) (suc (word_len z)) (rest (word_low c e))
    go false e rest = first_low b (c ∷ z) low

word_ends : (b : ℕ) (z : List ℕ) → is_word b ≡ true → EndsLow (b ∷ z) (word_len (b ∷ z))
word_ends b z e = rw e (word_on b z (word_low b e))

digits_on : (b : ℕ) (z : List ℕ) → b < 128 → EndsLow (b ∷ z) (suc (digits_len z))
digits_on b [] low = first_low b [] low
digits_on b (c ∷ z) low = go (is_ascii_digit c) refl (digits_on c z)
  where
    go : (t : Bool) → is_ascii_digit c ≡ t → (c < 128 → EndsLow (c ∷ z) (suc (digits_len z))) → EndsLow (b ∷ c ∷ z) (suc (cond t (suc (digits_len z)) 0))
    go true e rest = one_more b (c ∷ z) (suc (digits_len z)) (rest (digit_low c e))
    go false e rest = first_low b (c ∷ z) low

digits_end : (b : ℕ) (z : List ℕ) → is_ascii_digit b ≡ true → EndsLow (b ∷ z) (digits_len (b ∷ z))
digits_end b z e = rw e (digits_on b z (digit_low b e))

-- ---- quoted names

-- where a quoted name ends, if it does, there is a quote before
abbrev ClosesLow : List ℕ → Option ℕ → Type 0
ClosesLow z end = IfSome end (λ n. EndsLow z n)

mutual
  unfolding closing after_quote after_backslash

  closing_low : (z : List ℕ) → ClosesLow z (closing z)
  closing_low [] = tt
  closing_low (b ∷ z) = go (closing z) (closing_low z) (b == 39) refl (quote_low b z) (b == 92) (backslash_low b z) (b == 10)
    where
      go : (end : Option ℕ) → ClosesLow z end → (t : Bool) → (b == 39) ≡ t → (b < 128 → ClosesLow (b ∷ z) (after_quote z)) → (u : Bool) → ClosesLow (b ∷ z) (after_backslash z) → (v : Bool)
          → ClosesLow (b ∷ z) (cond t (after_quote z) (cond u (after_backslash z) (cond v None (option_map suc end))))
      go end h true e q u s v = q (low_if b 39 e (omega arith))
      go end h false e q true s v = s
      go end h false e q false s true = tt
      go None h false e q false s false = tt
      go (Some n) h false e q false s false = one_more b z n h

  quote_low : (b : ℕ) (z : List ℕ) → b < 128 → ClosesLow (b ∷ z) (after_quote z)
  quote_low b [] low = first_low b [] low
  quote_low b (c ∷ z) low = go (c == 39) (closing z) (closing_low z)
    where
      go : (t : Bool) (end : Option ℕ) → ClosesLow z end → ClosesLow (b ∷ c ∷ z) (cond t (or_here end) (Some 1))
      go false end h = first_low b (c ∷ z) low
      go true None h = first_low b (c ∷ z) low
      go true (Some n) h = one_more b (c ∷ z) (suc n) (one_more c z n h)

  backslash_low : (b : ℕ) (z : List ℕ) → ClosesLow (b ∷ z) (after_backslash z)
  backslash_low b [] = tt
  backslash_low b (c ∷ z) = go (is_escape c) (closing z) (closing_low z)
    where
      go : (t : Bool) (end : Option ℕ) → ClosesLow z end → ClosesLow (b ∷ c ∷ z) (cond t (option_map (λ n. suc (suc n)) end) None)
      go false end h = tt
      go true None h = tt
      go true (Some n) h = one_more b (c ∷ z) (suc n) (one_more c z n h)

quoted_ends : (b : ℕ) (z : List ℕ) → b < 128 → EndsLow (b ∷ z) (quoted (b ∷ z)).len
unfolding quoted
quoted_ends b z low = go (closing z) (closing_low z)
  where
    go : (end : Option ℕ) → ClosesLow z end → EndsLow (b ∷ z) (quoted_by (b ∷ z) end).len
    go None h = first_low b z low
    go (Some n) h = one_more b z n h

-- ---- marks

abbrev all_low : List ℕ → Bool
all_low [] = true
all_low (b ∷ bs) = nat_lt b 128 && all_low bs

abbrev is_low_mark : List ℕ → Bool
is_low_mark [] = false
is_low_mark (b ∷ bs) = nat_lt b 128 && all_low bs

abbrev low_marks : List (List ℕ × Lexeme) → Bool
low_marks [] = true
low_marks (m ∷ ms) = is_low_mark m.0 && low_marks ms

low_same : (a b : ℕ) → nat_lt a 128 ≡ true → (a == b) ≡ true → b < 128
low_same a b h e = grind (arith, nat_tests)

-- a text that begins with such a mark
mark_low : (a : ℕ) (bs z : List ℕ) → (nat_lt a 128 && all_low bs) ≡ true → begins_with (a ∷ bs) z ≡ true → EndsLow z (suc (length bs))
mark_low a bs [] h e = cc
mark_low a [] (b ∷ z) h e = first_low b z (low_same a b (and_parts _ _ h).0 (and_parts _ _ e).0)
mark_low a (c ∷ bs) (b ∷ z) h e = one_more b z (suc (length bs)) (mark_low c bs z (and_parts _ _ h).1 (and_parts _ _ e).1)

mark_first : (m : List ℕ) (b : ℕ) (z : List ℕ) → is_low_mark m ≡ true → begins_with m (b ∷ z) ≡ true → (b < 128) × EndsLow (b ∷ z) (length m)
mark_first [] b z h e = cc
mark_first (a ∷ bs) b z h e = (low_same a b (and_parts _ _ h).0 (and_parts _ _ e).0, mark_low a bs (b ∷ z) h e)

-- what is shown of a token
abbrev pub IsLow : ℕ → List ℕ → Token → Type 0
IsLow b z t = t.lexeme ≢ l.Bad → (b < 128) × EndsLow (b ∷ z) t.len

first_of_low : (ms : List (List ℕ × Lexeme)) (b : ℕ) (z : List ℕ) → low_marks ms ≡ true → IsLow b z (first_of ms (b ∷ z))
first_of_low [] b z h = λ good. absurd (good refl)
first_of_low (m ∷ ms) b z h = go (begins_with m.0 (b ∷ z)) (mark_first m.0 b z (and_parts _ _ h).0) (first_of_low ms b z (and_parts _ _ h).1)
  where
    go : (t : Bool) → (t ≡ true → (b < 128) × EndsLow (b ∷ z) (length m.0)) → IsLow b z (first_of ms (b ∷ z)) → IsLow b z (cond t (record { lexeme = m.1; len = length m.0 }) (first_of ms (b ∷ z)))
    go true one rest good = one refl
    go false one rest good = rest good

mark_is_low : (b : ℕ) (z : List ℕ) → IsLow b z (mark (b ∷ z))
unfolding mark
mark_is_low b z = first_of_low marks b z refl

-- ---- all tokens

cases : (after_number : Bool) (b : ℕ) (z : List ℕ) → Begins (IsLow b z) after_number b z
unfolding word number dot
cases after_number b z = record {
  name = λ e good. (word_low b (lower_word b e), word_ends b z (lower_word b e));
  variable = λ e good. (word_low b (upper_word b e), word_ends b z (upper_word b e));
  number = λ e good. (digit_low b e, digits_end b z e);
  quoted = λ e good. (low_if b 39 e (omega arith), quoted_ends b z (low_if b 39 e (omega arith)));
  dot = λ e good. (low_if b 46 e (omega arith), first_low b z (low_if b 46 e (omega arith)));
  mark = mark_is_low b z;
}

pub token_is_low : (after_number : Bool) (b : ℕ) (z : List ℕ) → IsLow b z (token after_number (b ∷ z))
token_is_low after_number b z = by_first (IsLow b z) after_number b z (cases after_number b z)
