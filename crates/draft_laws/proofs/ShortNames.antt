-- No name that is read is too long: a token for such a name is a fault.
use Rattle.std.proofs.Common.{◌≡◌, ◌≤◌, ℕ, suc, Bool, true, false, ◌||◌, ◌&&◌, List, [], ◌∷◌, length, take, drop, refl, ap, subst, ◌∙◌, arith, cond, length-take}
use Rattle.std.proofs.lemmas.Bool.Decides.{nat_tests}
use Rattle.std.specs.Char.{is_ascii_digit}
use Rattle.std.specs.Prelude.{◌==◌, nat_lt, Option, Some, None}
use Rattle.token_model.specs.declared.token.Lexeme.{Lexeme}
use Rattle.token_model.specs.declared.token.Lexeme.TheVariants as l
use Rattle.token_model.specs.declared.token.Token.{Token}
use Rattle.token_model.specs.Numbers.{digits_len, number_value, max_number, joins_number, number, lexeme_of_digits}
use Rattle.token_model.specs.Names.{word, quoted, quoted_by, quoted_name, closing, word_len, max_name}
use Rattle.token_model.specs.Marks.{mark, marks, dot, first_of, begins_with}
use Rattle.token_model.specs.White.{is_white}
use Rattle.token_model.specs.Tokens.{token}
use Rattle.token_model.specs.Remaining.{Remaining, ahead, touches_number, next_token, lexeme, spelling}
use Rattle.token_cursor.specs.Escapes.{name_by}
use Rattle.token_cursor.proofs.Spelled.{by_first}

abbrev pub is_name : Lexeme → Bool
is_name l.Name = true
is_name l.Quoted = true
is_name _ = false

-- a token that is a name stands for a short one
abbrev HasShortName : List ℕ → Token → Type 0
HasShortName z t = is_name t.lexeme ≡ true → length (name_by t.lexeme (take t.len z)) ≤ max_name

plain_short : (z : List ℕ) → HasShortName z (word l.Name z)
unfolding word
plain_short z = go (nat_lt max_name (word_len z)) refl
  where
    go : (t : Bool) → nat_lt max_name (word_len z) ≡ t → HasShortName z (record { lexeme = cond t l.NameTooLong l.Name; len = word_len z })
    go true e h = absurd (cc)
    go false e h = let k : word_len z ≤ max_name = grind (arith, nat_tests) in omega (arith, k, length-take (word_len z) z)

variable_short : (z : List ℕ) → HasShortName z (word l.Variable z)
unfolding word
variable_short z = go (nat_lt max_name (word_len z))
  where
    go : (t : Bool) → HasShortName z (record { lexeme = cond t l.NameTooLong l.Variable; len = word_len z })
    go true h = absurd (cc)
    go false h = absurd (cc)

number_short : (z : List ℕ) → HasShortName z (number z)
unfolding number lexeme_of_digits
number_short z = go (joins_number (drop (digits_len z) z)) (nat_lt max_number (number_value (take (digits_len z) z)))
  where
    go : (t u : Bool) → HasShortName z (record { lexeme = cond t l.Bad (cond u l.NumberTooLarge l.Number); len = digits_len z })
    go true u h = absurd (cc)
    go false true h = absurd (cc)
    go false false h = absurd (cc)

quoted_short : (z : List ℕ) → HasShortName z (quoted z)
unfolding quoted
quoted_short z = go (closing (drop 1 z))
  where
    go : (o : Option ℕ) → HasShortName z (quoted_by z o)
    go None h = absurd (cc)
    go (Some n) h = long (nat_lt max_name (length (quoted_name (take (suc n) z)))) refl h
      where
        long : (t : Bool) → nat_lt max_name (length (quoted_name (take (suc n) z))) ≡ t → HasShortName z (record { lexeme = cond t l.NameTooLong l.Quoted; len = suc n })
        long true e h = absurd (cc)
        long false e h = grind (arith, nat_tests)

dot_short : (z : List ℕ) (after_number : Bool) (text : List ℕ) → HasShortName z (dot after_number text)
unfolding dot
dot_short z after_number [] h = absurd (cc)
dot_short z after_number (b ∷ text) h = go (is_white b || b == 37) (after_number && is_ascii_digit b) h
  where
    go : (t u : Bool) → HasShortName z (record { lexeme = cond t l.End (cond u l.Unsupported l.Bad); len = 1 })
    go true u h = absurd (cc)
    go false true h = absurd (cc)
    go false false h = absurd (cc)

abbrev no_names : List (List ℕ × Lexeme) → Bool
no_names [] = true
no_names (m ∷ ms) = cond (is_name m.1) false (no_names ms)

first_is_no_name : (ms : List (List ℕ × Lexeme)) (text : List ℕ) → no_names ms ≡ true → is_name (first_of ms text).lexeme ≡ false
first_is_no_name [] text h = refl
first_is_no_name (m ∷ ms) text h = go (begins_with m.0 text) (is_name m.1) refl h (first_is_no_name ms text)
  where
    go : (t u : Bool) → is_name m.1 ≡ u → cond u false (no_names ms) ≡ true → (no_names ms ≡ true → is_name (first_of ms text).lexeme ≡ false)
        → is_name (cond t (record { lexeme = m.1; len = length m.0 }) (first_of ms text)).lexeme ≡ false
    go t true e h rest = absurd (cc)
    go true false e h rest = e
    go false false e h rest = rest h

mark_short : (z text : List ℕ) → HasShortName z (mark text)
unfolding mark
mark_short z text h = let e = first_is_no_name marks text refl in absurd (cc)

short_token : (after_number : Bool) (z : List ℕ) → HasShortName z (token after_number z)
unfolding token
short_token after_number [] h = absurd (cc)
short_token after_number (b ∷ z) h = by_first (HasShortName (b ∷ z)) after_number b z (record {
  name = λ e. plain_short (b ∷ z);
  variable = λ e. variable_short (b ∷ z);
  number = λ e. number_short (b ∷ z);
  quoted = λ e. quoted_short (b ∷ z);
  dot = λ e. dot_short (b ∷ z) after_number z;
  mark = mark_short (b ∷ z) (b ∷ z);
}) h

pub name_is_short : (r : Remaining) (k : Lexeme) → lexeme r ≡ k → is_name k ≡ true → length (name_by k (spelling r)) ≤ max_name
unfolding lexeme spelling next_token
name_is_short r k e h =
    let h' : is_name (lexeme r) ≡ true = ap is_name e ∙ h in
    subst (λ (x : Lexeme). length (name_by x (spelling r)) ≤ max_name) e (short_token (touches_number r) (ahead r) h')
