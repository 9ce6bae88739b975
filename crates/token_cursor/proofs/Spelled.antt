-- What the bytes of a number are, and that each token takes a byte.
use Rattle.std.proofs.Common.{◌≡◌, ◌≢◌, ℕ, suc, ◌<◌, ◌≤◌, Bool, true, false, ◌||◌, ◌&&◌, List, [], ◌∷◌, length, take, drop, refl, sym, arith, cond, length-drop}
use Rattle.std.proofs.lemmas.Bool.Decides.{nat_tests}
use Rattle.std.specs.Char.{is_ascii_digit, is_ascii_lowercase, is_ascii_uppercase}
use Rattle.std.specs.Prelude.{◌==◌, nat_lt, Option, Some, None}
use Rattle.std.specs.Str.Parse.{AllDigits}
use Rattle.token_model.specs.declared.token.Lexeme.{Lexeme}
use Rattle.token_model.specs.declared.token.Lexeme.TheVariants as l
use Rattle.token_model.specs.declared.token.Token.{Token}
use Rattle.token_model.specs.Numbers.{digits_len, number_value, max_number, joins_number, number, lexeme_of_digits}
use Rattle.token_model.specs.Names.{word, quoted, quoted_by, quoted_name, closing, is_word, word_len, max_name}
use Rattle.token_model.specs.Marks.{mark, marks, dot, first_of, begins_with}
use Rattle.token_model.specs.White.{skipped, after_line, after_slash, in_comment, after_star, is_white}
use Rattle.token_model.specs.Tokens.{token}
use Rattle.token_model.specs.Remaining.{Remaining, ahead, touches_number, next_token, lexeme, spelling, next, left}
use Rattle.token_cursor.proofs.Digits.{digits_are_digits}

-- ---- a token by its first byte

-- what its first byte says of a token
pub record Begins (P : Token → Type 0) (after_number : Bool) (b : ℕ) (z : List ℕ) : Type 0 where
  pub name : is_ascii_lowercase b ≡ true → P (word l.Name (b ∷ z))
  pub variable : (is_ascii_uppercase b || b == 95) ≡ true → P (word l.Variable (b ∷ z))
  pub number : is_ascii_digit b ≡ true → P (number (b ∷ z))
  pub quoted : (b == 39) ≡ true → P (quoted (b ∷ z))
  pub dot : (b == 46) ≡ true → P (dot after_number z)
  pub mark : P (mark (b ∷ z))

pub by_first : (P : Token → Type 0) (after_number : Bool) (b : ℕ) (z : List ℕ) → Begins P after_number b z → P (token after_number (b ∷ z))
unfolding token
by_first P after_number b z cases = go (is_ascii_lowercase b) refl (is_ascii_uppercase b || b == 95) refl (is_ascii_digit b) refl (b == 39) refl (b == 46) refl
  where
    go : (t : Bool) → is_ascii_lowercase b ≡ t → (u : Bool) → (is_ascii_uppercase b || b == 95) ≡ u → (v : Bool) → is_ascii_digit b ≡ v
        → (q : Bool) → (b == 39) ≡ q → (p : Bool) → (b == 46) ≡ p
        → P (cond t (word l.Name (b ∷ z)) (cond u (word l.Variable (b ∷ z)) (cond v (number (b ∷ z)) (cond q (quoted (b ∷ z)) (cond p (dot after_number z) (mark (b ∷ z)))))))
    go true e u f v g q h p i = cases.name e
    go false e true f v g q h p i = cases.variable f
    go false e false f true g q h p i = cases.number g
    go false e false f false g true h p i = cases.quoted h
    go false e false f false g false h true i = cases.dot i
    go false e false f false g false h false i = cases.mark

-- ---- what words, quoted names and marks are not

no_word : (t : Bool) (what other : Lexeme) → cond t l.NameTooLong what ≡ other → other ≢ l.NameTooLong → other ≢ what → ⊥
no_word true what other h p q = p (sym h)
no_word false what other h p q = q (sym h)

no_number : (joins above : Bool) (other : Lexeme) → cond joins l.Bad (cond above l.NumberTooLarge l.Number) ≡ other → other ≢ l.Bad → other ≢ l.NumberTooLarge → other ≢ l.Number → ⊥
no_number true above other h p q r = p (sym h)
no_number false true other h p q r = q (sym h)
no_number false false other h p q r = r (sym h)

-- a test that holds of no word and no number
abbrev is_mark : Lexeme → Bool
is_mark l.Name = false
is_mark l.Quoted = false
is_mark l.Variable = false
is_mark l.Number = false
is_mark l.Finish = false
is_mark _ = true

abbrev all_marks : List (List ℕ × Lexeme) → Bool
all_marks [] = true
all_marks (m ∷ ms) = is_mark m.1 && all_marks ms

first_is_mark : (ms : List (List ℕ × Lexeme)) (text : List ℕ) → all_marks ms ≡ true → is_mark (first_of ms text).lexeme ≡ true
first_is_mark [] text h = refl
first_is_mark (m ∷ ms) text h = go (begins_with m.0 text) (is_mark m.1) refl h (first_is_mark ms text)
  where
    go : (t u : Bool) → is_mark m.1 ≡ u → (u && all_marks ms) ≡ true → (all_marks ms ≡ true → is_mark (first_of ms text).lexeme ≡ true)
        → is_mark (cond t (record { lexeme = m.1; len = length m.0 }) (first_of ms text)).lexeme ≡ true
    go true true e h rest = e
    go true false e h rest = cc
    go false true e h rest = rest h
    go false false e h rest = cc

mark_is_mark : (text : List ℕ) → is_mark (mark text).lexeme ≡ true
unfolding mark
mark_is_mark text = first_is_mark marks text refl

dot_is_mark : (after_number : Bool) (text : List ℕ) → is_mark (dot after_number text).lexeme ≡ true
unfolding dot
dot_is_mark after_number [] = refl
dot_is_mark after_number (b ∷ text) = go (is_white b || b == 37) (after_number && is_ascii_digit b)
  where
    go : (t u : Bool) → is_mark (cond t l.End (cond u l.Unsupported l.Bad)) ≡ true
    go true u = refl
    go false true = refl
    go false false = refl

no_mark : (k : Lexeme) → is_mark k ≡ true → (k ≢ l.Name) × (k ≢ l.Variable) × (k ≢ l.Number) × (k ≢ l.Quoted)
no_mark k h = (λ e. go l.Name refl e, λ e. go l.Variable refl e, λ e. go l.Number refl e, λ e. go l.Quoted refl e)
  where
    go : (w : Lexeme) → is_mark w ≡ false → k ≡ w → ⊥
    go w f e = let g : is_mark w ≡ true = rw e at h in cc

no_quoted : (text : List ℕ) (end : Option ℕ) (other : Lexeme) → (quoted_by text end).lexeme ≡ other → other ≢ l.Bad → other ≢ l.NameTooLong → other ≢ l.Quoted → ⊥
no_quoted text None other h p q r = p (sym h)
no_quoted text (Some n) other h p q r = no_word (nat_lt max_name (length (quoted_name (take (suc n) text)))) l.Quoted other h q r

-- ---- numbers

in_limit : (v : ℕ) (joins : Bool) → cond joins l.Bad (cond (nat_lt max_number v) l.NumberTooLarge l.Number) ≡ l.Number → v ≤ max_number
in_limit v true h = cc
in_limit v false h = go (nat_lt max_number v) refl h
  where
    go : (t : Bool) → nat_lt max_number v ≡ t → cond t l.NumberTooLarge l.Number ≡ l.Number → v ≤ max_number
    go true e h = cc
    go false e h = grind (arith, nat_tests)

record IsNumberToken (z : List ℕ) (t : Token) : Type 0 where
  len : t.len ≡ digits_len z
  small : number_value (take (digits_len z) z) ≤ max_number

number_cases : (after_number : Bool) (b : ℕ) (z : List ℕ) → Begins (λ t. t.lexeme ≡ l.Number → IsNumberToken (b ∷ z) t) after_number b z
unfolding word number lexeme_of_digits quoted
number_cases after_number b z = record {
  name = λ e h. absurd (no_word (nat_lt max_name (word_len (b ∷ z))) l.Name l.Number h (λ p. cc) (λ p. cc));
  variable = λ e h. absurd (no_word (nat_lt max_name (word_len (b ∷ z))) l.Variable l.Number h (λ p. cc) (λ p. cc));
  number = λ e h. record { len = refl; small = in_limit (number_value (take (digits_len (b ∷ z)) (b ∷ z))) (joins_number (drop (digits_len (b ∷ z)) (b ∷ z))) h };
  quoted = λ e h. absurd (no_quoted (b ∷ z) (closing (drop 1 (b ∷ z))) l.Number h (λ p. cc) (λ p. cc) (λ p. cc));
  dot = λ e h. absurd ((no_mark _ (dot_is_mark after_number z)).2 h);
  mark = λ h. absurd ((no_mark _ (mark_is_mark (b ∷ z))).2 h);
}

number_token : (after_number : Bool) (z : List ℕ) → (token after_number z).lexeme ≡ l.Number → IsNumberToken z (token after_number z)
unfolding token
number_token after_number [] h = cc
number_token after_number (b ∷ z) h = by_first (λ t. t.lexeme ≡ l.Number → IsNumberToken (b ∷ z) t) after_number b z (number_cases after_number b z) h

-- a number's bytes are digits, and their value is not too large
pub number_is_digits : (r : Remaining) → lexeme r ≡ l.Number → AllDigits 10 (spelling r)
unfolding lexeme spelling next_token
number_is_digits r h = rw (number_token (touches_number r) (ahead r) h).len (digits_are_digits (ahead r))

pub number_in_limit : (r : Remaining) → lexeme r ≡ l.Number → number_value (spelling r) ≤ max_number
unfolding lexeme spelling next_token
number_in_limit r h = let t = number_token (touches_number r) (ahead r) h in rw t.len t.small

-- ---- each token takes a byte

positive_word : (b : ℕ) (z : List ℕ) → is_word b ≡ true → 0 < word_len (b ∷ z)
positive_word b z e = rw e (omega arith)

positive_digits : (b : ℕ) (z : List ℕ) → is_ascii_digit b ≡ true → 0 < digits_len (b ∷ z)
positive_digits b z e = rw e (omega arith)

pub lower_word : (b : ℕ) → is_ascii_lowercase b ≡ true → is_word b ≡ true
lower_word b e = grind (arith, nat_tests)

pub upper_word : (b : ℕ) → (is_ascii_uppercase b || b == 95) ≡ true → is_word b ≡ true
upper_word b e = grind (arith, nat_tests)

positive_quoted : (text : List ℕ) (end : Option ℕ) → 0 < (quoted_by text end).len
positive_quoted text None = omega arith
positive_quoted text (Some n) = omega arith

-- none of these marks is empty
abbrev none_empty : List (List ℕ × Lexeme) → Bool
none_empty [] = true
none_empty (m ∷ ms) = nat_lt 0 (length m.0) && none_empty ms

positive_first : (ms : List (List ℕ × Lexeme)) (text : List ℕ) → none_empty ms ≡ true → 0 < (first_of ms text).len
positive_first [] text h = omega arith
positive_first (m ∷ ms) text h = go (begins_with m.0 text) (nat_lt 0 (length m.0)) refl h (positive_first ms text)
  where
    go : (t u : Bool) → nat_lt 0 (length m.0) ≡ u → (u && none_empty ms) ≡ true → (none_empty ms ≡ true → 0 < (first_of ms text).len)
        → 0 < (cond t (record { lexeme = m.1; len = length m.0 }) (first_of ms text)).len
    go true true e h rest = grind (arith, nat_tests)
    go true false e h rest = cc
    go false true e h rest = rest h
    go false false e h rest = cc

positive_mark : (text : List ℕ) → 0 < (mark text).len
unfolding mark
positive_mark text = positive_first marks text refl

positive_cases : (after_number : Bool) (b : ℕ) (z : List ℕ) → Begins (λ t. 0 < t.len) after_number b z
unfolding word number quoted dot
positive_cases after_number b z = record {
  name = λ e. positive_word b z (lower_word b e);
  variable = λ e. positive_word b z (upper_word b e);
  number = λ e. positive_digits b z e;
  quoted = λ e. positive_quoted (b ∷ z) (closing z);
  dot = λ e. omega arith;
  mark = positive_mark (b ∷ z);
}

token_positive : (after_number : Bool) (b : ℕ) (z : List ℕ) → 0 < (token after_number (b ∷ z)).len
token_positive after_number b z = by_first (λ t. 0 < t.len) after_number b z (positive_cases after_number b z)

mutual
  unfolding skipped after_line after_slash in_comment after_star

  pub skipped_within : (z : List ℕ) → length (skipped z) ≤ length z
  skipped_within [] = omega arith
  skipped_within (b ∷ z) = go (skipped_within z) (line_within z) (slash_within z) (is_white b) (b == 37) (b == 47)
    where
      go : length (skipped z) ≤ length z → length (after_line z) ≤ length z → length (after_slash z) ≤ suc (length z)
          → (t u v : Bool) → length (cond t (skipped z) (cond u (after_line z) (cond v (after_slash z) (b ∷ z)))) ≤ suc (length z)
      go h k s true u v = omega arith
      go h k s false true v = omega arith
      go h k s false false true = s
      go h k s false false false = omega arith

  line_within : (z : List ℕ) → length (after_line z) ≤ length z
  line_within [] = omega arith
  line_within (b ∷ z) = go (skipped_within z) (line_within z) (b == 10)
    where
      go : length (skipped z) ≤ length z → length (after_line z) ≤ length z → (t : Bool) → length (cond t (skipped z) (after_line z)) ≤ suc (length z)
      go h k true = omega arith
      go h k false = omega arith

  slash_within : (z : List ℕ) → length (after_slash z) ≤ suc (length z)
  slash_within [] = omega arith
  slash_within (b ∷ z) = go (comment_within (47 ∷ 42 ∷ z) z) (b == 42)
    where
      go : ((most : ℕ) → length z ≤ most → suc (suc (length z)) ≤ most → length (in_comment (47 ∷ 42 ∷ z) z) ≤ most)
          → (t : Bool) → length (cond t (in_comment (47 ∷ 42 ∷ z) z) (47 ∷ b ∷ z)) ≤ suc (suc (length z))
      go h true = h (suc (suc (length z))) (omega arith) (omega arith)
      go h false = omega arith

  comment_within : (whole z : List ℕ) (most : ℕ) → length z ≤ most → length whole ≤ most → length (in_comment whole z) ≤ most
  comment_within whole [] most h w = w
  comment_within whole (b ∷ z) most h w = go (star_within whole z most (omega arith) w) (comment_within whole z most (omega arith) w) (b == 42)
    where
      go : length (after_star whole z) ≤ most → length (in_comment whole z) ≤ most → (t : Bool) → length (cond t (after_star whole z) (in_comment whole z)) ≤ most
      go s k true = s
      go s k false = k

  star_within : (whole z : List ℕ) (most : ℕ) → length z ≤ most → length whole ≤ most → length (after_star whole z) ≤ most
  star_within whole [] most h w = w
  star_within whole (b ∷ z) most h w = go (skipped_within z) (star_within whole z most (omega arith) w) (comment_within whole z most (omega arith) w) h (b == 47) (b == 42)
    where
      go : length (skipped z) ≤ length z → length (after_star whole z) ≤ most → length (in_comment whole z) ≤ most → suc (length z) ≤ most
          → (t u : Bool) → length (cond t (skipped z) (cond u (after_star whole z) (in_comment whole z))) ≤ most
      go r s k h true u = omega arith
      go r s k h false true = s
      go r s k h false false = k

-- the text after a token is shorter, but at the end
pub token_moves : (r : Remaining) → lexeme r ≢ l.Finish → length (next r).text < length r.text
unfolding lexeme next next_token ahead token
token_moves r h = go (touches_number r) (skipped r.text) (skipped_within r.text) h
  where
    go : (t : Bool) (z : List ℕ) → length z ≤ length r.text → (token t z).lexeme ≢ l.Finish → length (drop (token t z).len z) < length r.text
    go t [] within h = absurd (h refl)
    go t (b ∷ z) within h = moved (token t (b ∷ z)).len (token_positive t b z)
      where
        moved : (n : ℕ) → 0 < n → length (drop n (b ∷ z)) < length r.text
        moved n p = omega (arith, length-drop n (b ∷ z))

pub next_within : (r : Remaining) → length (next r).text ≤ length r.text
unfolding next next_token ahead
next_within r = omega (arith, length-drop (token (touches_number r) (skipped r.text)).len (skipped r.text), skipped_within r.text)

pub left_within : (r : Remaining) → left r ≤ length r.text
unfolding left ahead
left_within r = skipped_within r.text
