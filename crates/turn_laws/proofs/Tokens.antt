-- Each token takes a byte, and where no bytes are left nothing comes.
use Rattle.std.proofs.Common.{◌≡◌, ◌≢◌, ℕ, suc, ◌<◌, ◌≤◌, Bool, true, false, ◌&&◌, ◌||◌, if◌then◌else◌, List, [], ◌∷◌, length, take, drop, refl, arith, cond, length-drop}
use Rattle.std.proofs.lemmas.Bool.Decides.{nat_tests}
use Rattle.std.specs.Char.{is_ascii_digit}
use Rattle.std.specs.Prelude.{◌==◌, nat_lt, Option, Some, None}
use Rattle.token_model.specs.declared.token.Lexeme.{Lexeme}
use Rattle.token_model.specs.declared.token.Lexeme.TheVariants as l
use Rattle.token_model.specs.Numbers.{digits_len, number, number_value, max_number, joins_number, lexeme_of_digits}
use Rattle.token_model.specs.Names.{word, quoted, quoted_by, quoted_name, closing, is_word, word_len, max_name}
use Rattle.token_model.specs.Marks.{mark, marks, dot, first_of, begins_with}
use Rattle.token_model.specs.White.{skipped, is_white}
use Rattle.token_model.specs.Tokens.{token}
use Rattle.token_model.specs.Remaining.{Remaining, ahead, touches_number, next_token, lexeme, next, left}
use Rattle.token_cursor.proofs.Spelled.{Begins, by_first, lower_word, upper_word, skipped_within}

positive_word : (b : ℕ) (z : List ℕ) → is_word b ≡ true → 0 < word_len (b ∷ z)
positive_word b z e = rw e (omega arith)

positive_digits : (b : ℕ) (z : List ℕ) → is_ascii_digit b ≡ true → 0 < digits_len (b ∷ z)
positive_digits b z e = rw e (omega arith)

positive_quoted : (text : List ℕ) (end : Option ℕ) → 0 < (quoted_by text end).len
positive_quoted text None = omega arith
positive_quoted text (Some n) = omega arith

-- none of these marks is empty
abbrev none_empty : List (List ℕ × Lexeme) → Bool
none_empty [] = true
none_empty (m ∷ ms) = nat_lt 0 (length m.0) && none_empty ms

positive_first : (ms : List (List ℕ × Lexeme)) (text : List ℕ) → none_empty ms ≡ true → 0 < (first_of ms text).len
positive_first [] text h = omega arith
positive_first (m ∷ ms) text h = go (begins_with m.0 text) (nat_lt 0 (length m.0)) refl h (positive_first ms text)
  where
    go : (t u : Bool) → nat_lt 0 (length m.0) ≡ u → (u && none_empty ms) ≡ true → (none_empty ms ≡ true → 0 < (first_of ms text).len)
        → 0 < (cond t (record { lexeme = m.1; len = length m.0 }) (first_of ms text)).len
    go true true e h rest = grind (arith, nat_tests)
    go true false e h rest = cc
    go false true e h rest = rest h
    go false false e h rest = cc

positive_mark : (text : List ℕ) → 0 < (mark text).len
unfolding mark
positive_mark text = positive_first marks text refl

positive_cases : (after_number : Bool) (b : ℕ) (z : List ℕ) → Begins (λ t. 0 < t.len) after_number b z
unfolding word number quoted dot
positive_cases after_number b z = record {
  name = λ e. positive_word b z (lower_word b e);
  variable = λ e. positive_word b z (upper_word b e);
  number = λ e. positive_digits b z e;
  quoted = λ e. positive_quoted (b ∷ z) (closing z);
  dot = λ e. omega arith;
  mark = positive_mark (b ∷ z);
}

token_positive : (after_number : Bool) (b : ℕ) (z : List ℕ) → 0 < (token after_number (b ∷ z)).len
token_positive after_number b z = by_first (λ t. 0 < t.len) after_number b z (positive_cases after_number b z)

-- fewer bytes are left behind a token than from it on
pub next_fewer : (r : Remaining) → lexeme r ≢ l.Finish → left (next r) < left r
unfolding lexeme next next_token ahead token left
next_fewer r h = go (touches_number r) (skipped r.text) h
  where
    go : (t : Bool) (z : List ℕ) → (token t z).lexeme ≢ l.Finish → length (skipped (drop (token t z).len z)) < length z
    go t [] h = absurd (h refl)
    go t (b ∷ z) h = moved (token t (b ∷ z)).len (token_positive t b z)
      where
        moved : (n : ℕ) → 0 < n → length (skipped (drop n (b ∷ z))) < length (b ∷ z)
        moved n p = omega (arith, length-drop n (b ∷ z), skipped_within (drop n (b ∷ z)))

pub next_no_more : (r : Remaining) → left (next r) ≤ left r
unfolding next next_token ahead left
next_no_more r =
    let n : ℕ = (token (touches_number r) (skipped r.text)).len in
    omega (arith, length-drop n (skipped r.text), skipped_within (drop n (skipped r.text)))

-- where none is left, the end of the text comes next
pub nothing_left : (r : Remaining) → left r ≤ 0 → lexeme r ≡ l.Finish
unfolding left lexeme next_token token
nothing_left r h = go (touches_number r) (ahead r) h
  where
    go : (t : Bool) (z : List ℕ) → length z ≤ 0 → (token t z).lexeme ≡ l.Finish
    go t [] h = refl
    go t (b ∷ z) h = absurd (omega arith)

-- ---- the end of the text

abbrev is_end : Lexeme → Bool
is_end l.Finish = true
is_end _ = false

-- none of these marks is the end
abbrev none_ends : List (List ℕ × Lexeme) → Bool
none_ends [] = true
none_ends (m ∷ ms) = if is_end m.1 then false else none_ends ms

first_goes_on : (ms : List (List ℕ × Lexeme)) (text : List ℕ) → none_ends ms ≡ true → is_end (first_of ms text).lexeme ≡ false
first_goes_on [] text h = refl
first_goes_on (m ∷ ms) text h = go (begins_with m.0 text) (is_end m.1) refl h (first_goes_on ms text)
  where
    go : (t u : Bool) → is_end m.1 ≡ u → (if u then false else none_ends ms) ≡ true → (none_ends ms ≡ true → is_end (first_of ms text).lexeme ≡ false)
        → is_end (cond t (record { lexeme = m.1; len = length m.0 }) (first_of ms text)).lexeme ≡ false
    go t true e h rest = cc
    go true false e h rest = e
    go false false e h rest = rest h

mark_goes_on : (text : List ℕ) → is_end (mark text).lexeme ≡ false
unfolding mark
mark_goes_on text = first_goes_on marks text refl

word_goes_on : (t : Bool) (k : Lexeme) → is_end k ≡ false → is_end (cond t l.NameTooLong k) ≡ false
word_goes_on true k h = refl
word_goes_on false k h = h

number_goes_on : (t u : Bool) → is_end (cond t l.Bad (cond u l.NumberTooLarge l.Number)) ≡ false
number_goes_on true u = refl
number_goes_on false true = refl
number_goes_on false false = refl

quoted_goes_on : (text : List ℕ) (end : Option ℕ) → is_end (quoted_by text end).lexeme ≡ false
quoted_goes_on text None = refl
quoted_goes_on text (Some n) = word_goes_on (nat_lt max_name (length (quoted_name (take (suc n) text)))) l.Quoted refl

dot_goes_on : (after_number : Bool) (text : List ℕ) → is_end (dot after_number text).lexeme ≡ false
unfolding dot
dot_goes_on after_number [] = refl
dot_goes_on after_number (b ∷ text) = go (is_white b || b == 37) (after_number && is_ascii_digit b)
  where
    go : (t u : Bool) → is_end (cond t l.End (cond u l.Unsupported l.Bad)) ≡ false
    go true u = refl
    go false true = refl
    go false false = refl

goes_on_cases : (after_number : Bool) (b : ℕ) (z : List ℕ) → Begins (λ t. is_end t.lexeme ≡ false) after_number b z
unfolding word number lexeme_of_digits quoted
goes_on_cases after_number b z = record {
  name = λ e. word_goes_on (nat_lt max_name (word_len (b ∷ z))) l.Name refl;
  variable = λ e. word_goes_on (nat_lt max_name (word_len (b ∷ z))) l.Variable refl;
  number = λ e. number_goes_on (joins_number (drop (digits_len (b ∷ z)) (b ∷ z))) (nat_lt max_number (number_value (take (digits_len (b ∷ z)) (b ∷ z))));
  quoted = λ e. quoted_goes_on (b ∷ z) (closing z);
  dot = λ e. dot_goes_on after_number z;
  mark = mark_goes_on (b ∷ z);
}

-- where the end of the text comes next, no bytes are left
pub ends_nothing : (r : Remaining) → lexeme r ≡ l.Finish → left r ≡ 0
unfolding left lexeme next_token
ends_nothing r h = go (touches_number r) (ahead r) h
  where
    go : (t : Bool) (z : List ℕ) → (token t z).lexeme ≡ l.Finish → length z ≡ 0
    go t [] h = refl
    go t (b ∷ z) h =
        let other : is_end (token t (b ∷ z)).lexeme ≡ false = by_first (λ k. is_end k.lexeme ≡ false) t b z (goes_on_cases t b z) in
        let same : is_end l.Finish ≡ false = rw h at other in
        cc
