-- What remains of a text in UTF-8 is in UTF-8, token by token, and so are the names of its tokens.
use Rattle.std.proofs.Common.{◌≡◌, ◌≢◌, ℕ, ◌+◌, ◌-◌, ◌<◌, ◌≤◌, Bool, true, false, cond, List, [], ◌∷◌, length, take, drop, get_or, IsUtf8, inl, inr, refl, sym, ◌∙◌, subst, arith, get_or-take, length-take-le}
use Rattle.std.proofs.lemmas.Bool.{cases_lt}
use Rattle.std.proofs.lemmas.Str.{IsUtf8-nil, IsUtf8-take, IsUtf8-drop, IsCharBoundary-after_ascii}
use denote.Enum.Bare.{same_true}
use Rattle.token_model.specs.contracts.token.Lexeme.{the_type}
use Rattle.token_model.specs.declared.token.Lexeme.{Lexeme}
use Rattle.token_model.specs.declared.token.Lexeme.TheVariants as l
use Rattle.token_model.specs.Names.{quoted_name, unescaped}
use Rattle.token_model.specs.Tokens.{token}
use Rattle.token_model.specs.Remaining.{Remaining, ahead, after, lexeme, left, next, next_token, same_lexeme, sees, spelling, touches_number}
use Rattle.token_cursor.specs.Escapes.{name_by}
use Rattle.token_cursor.proofs.Texts.{quoted_is_text}
use Rattle.utf8_laws.specs.Laws.{SkippingKeepsText, TokensKeepText, PassingKeepsText, SpellingIsText, NameIsText, AheadIsAnEnd}
use Rattle.utf8_laws.proofs.Skipping.{skipped_is_text, skipped_is_end}
use Rattle.utf8_laws.proofs.Ends.{EndsLow, token_is_low}

-- both parts of a text that is cut after a byte that is ASCII
cut : (z : List ℕ) (n : ℕ) → IsUtf8 z → EndsLow z n → IsUtf8 (take n z) × IsUtf8 (drop n z)
cut z n u e =
    let same : e.0 + 1 ≡ n = omega (arith, e.1) in
    let here = IsCharBoundary-after_ascii z e.0 u e.2 e.3 in
    (subst (λ (m : ℕ). IsUtf8 (take m z)) same (IsUtf8-take z (e.0 + 1) u here), subst (λ (m : ℕ). IsUtf8 (drop m z)) same (IsUtf8-drop z (e.0 + 1) u here))

token_cuts : (after_number : Bool) (z : List ℕ) → IsUtf8 z → (token after_number z).lexeme ≢ l.Bad → IsUtf8 (take (token after_number z).len z) × IsUtf8 (drop (token after_number z).len z)
unfolding token
token_cuts after_number [] u good = (u, u)
token_cuts after_number (b ∷ z) u good = cut (b ∷ z) (token after_number (b ∷ z)).len u (token_is_low after_number b z good).1

-- ---- names

short_is_empty : (z : List ℕ) → length z < 2 → IsUtf8 (quoted_name z)
unfolding unescaped
short_is_empty [] h = IsUtf8-nil
short_is_empty (b ∷ []) h = IsUtf8-nil
short_is_empty (b ∷ c ∷ z) h = absurd (omega arith)

unquoted_is_text : (b : ℕ) (z : List ℕ) (n : ℕ) → IsUtf8 (b ∷ z) → b < 128 → EndsLow (b ∷ z) n → IsUtf8 (quoted_name (take n (b ∷ z)))
unquoted_is_text b z n u low e = elim (cases_lt (length s) 2) [
  | inl short ↦ short_is_empty s short
  | inr long ↦ quoted_is_text s (cut (b ∷ z) n u e).0 long first last
]
  where
    s : List ℕ
    s = take n (b ∷ z)

    size : length (take n (b ∷ z)) ≡ n
    size = length-take-le n (b ∷ z) (omega (arith, e.1, e.2))

    first : get_or (take n (b ∷ z)) 0 0 < 128
    first = rw (get_or-take n (b ∷ z) 0 0 (omega (arith, e.1))) low

    place : length (take n (b ∷ z)) - 1 ≡ e.0
    place = omega (arith, size, e.1)

    last : get_or (take n (b ∷ z)) (length (take n (b ∷ z)) - 1) 0 < 128
    last = rw (place, get_or-take n (b ∷ z) e.0 0 (omega (arith, e.1))) e.3

either_name : (k : Lexeme) (s : List ℕ) → IsUtf8 s → IsUtf8 (quoted_name s) → IsUtf8 (name_by k s)
either_name l.Quoted s u q = q
either_name _ s u q = u

token_name : (after_number : Bool) (z : List ℕ) → IsUtf8 z → (token after_number z).lexeme ≢ l.Bad → IsUtf8 (quoted_name (take (token after_number z).len z))
unfolding token unescaped
token_name after_number [] u good = u
token_name after_number (b ∷ z) u good = let t = token_is_low after_number b z good in unquoted_is_text b z (token after_number (b ∷ z)).len u t.0 t.1

-- ---- what remains

pub ahead_is_text : SkippingKeepsText
unfolding ahead
ahead_is_text r u = skipped_is_text r.text u

pub next_is_text : TokensKeepText
unfolding next lexeme next_token
next_is_text r u good = (token_cuts (touches_number r) (ahead r) (ahead_is_text r u) good).1

pub spelling_is_text : SpellingIsText
unfolding spelling lexeme next_token
spelling_is_text r u good = (token_cuts (touches_number r) (ahead r) (ahead_is_text r u) good).0

pub name_is_text : NameIsText
unfolding spelling lexeme next_token
name_is_text r u good =
    let z = ahead_is_text r u in
    either_name (lexeme r) (spelling r) (token_cuts (touches_number r) (ahead r) z good).0 (token_name (touches_number r) (ahead r) z good)

pub after_is_text : PassingKeepsText
unfolding after sees same_lexeme
after_is_text wanted r u good = go (sees wanted r) refl
  where
    seen : sees wanted r ≡ true → lexeme r ≡ wanted
    seen e = same_true the_type tt (lexeme r) wanted e

    go : (t : Bool) → sees wanted r ≡ t → IsUtf8 (cond t (next r) r).text
    go true e = next_is_text r u (λ bad. good (sym (seen e) ∙ bad))
    go false e = u

pub ahead_is_end : AheadIsAnEnd
unfolding ahead left
ahead_is_end r = skipped_is_end r.text

-- ---- by the lexeme that was seen

abbrev pub is_bad : Lexeme → Bool
is_bad l.Bad = true
is_bad _ = false

not_bad : (k other : Lexeme) → k ≡ other → is_bad other ≡ false → k ≢ l.Bad
not_bad k other e h bad = let f : is_bad k ≡ false = rw e h in let g : is_bad k ≡ true = rw bad refl in cc

-- after a token of a known kind
pub next_of : (r : Remaining) (k : Lexeme) → IsUtf8 r.text → lexeme r ≡ k → is_bad k ≡ false → IsUtf8 (next r).text
next_of r k u e h = next_is_text r u (not_bad (lexeme r) k e h)

pub name_of : (r : Remaining) (k : Lexeme) → IsUtf8 r.text → lexeme r ≡ k → is_bad k ≡ false → IsUtf8 (name_by k (spelling r))
name_of r k u e h = subst (λ (x : Lexeme). IsUtf8 (name_by x (spelling r))) e (name_is_text r u (not_bad (lexeme r) k e h))

-- a token lies within what is ahead
token_within : (after_number : Bool) (z : List ℕ) → (token after_number z).lexeme ≢ l.Bad → (token after_number z).len ≤ length z
unfolding token
token_within after_number [] good = omega arith
token_within after_number (b ∷ z) good = let e = (token_is_low after_number b z good).1 in omega (arith, e.1, e.2)

pub within_ahead : (r : Remaining) → lexeme r ≢ l.Bad → (next_token r).len ≤ left r
unfolding lexeme next_token left
within_ahead r good = token_within (touches_number r) (ahead r) good
