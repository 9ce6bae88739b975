-- A reader keeps a text in UTF-8 that is short enough.
use Rattle.std.proofs.Common.{◌≡◌, ◌≢◌, ℕ, zero, suc, ◌+◌, ◌<◌, ◌≤◌, ◌^◌, Bool, true, false, cond, List, [], ◌∷◌, ◌++◌, length, take, IsUtf8, refl, arith, length-append, length-take-le}
use Rattle.token_model.specs.declared.token.Lexeme.{Lexeme}
use Rattle.token_model.specs.declared.token.Lexeme.TheVariants as l
use Rattle.token_model.specs.declared.fault.Kind.TheVariants.{TooDeep}
use Rattle.token_model.specs.Remaining as token
use Rattle.token_model.specs.Remaining.{Remaining, whole, lexeme, next, next_token, ahead, after, sees, spelling, touches_number}
use Rattle.token_model.specs.Tokens as tokens
use Rattle.token_cursor.specs.Escapes.{name_by}
use Rattle.token_cursor.proofs.Spelled.{next_within, token_moves}
use Rattle.utf8_laws.proofs.Ends.{token_is_low}
use Rattle.utf8_laws.proofs.Texts.{next_is_text, after_is_text, spelling_is_text, name_is_text}
use Rattle.clp_grammar.specs.Input.{is_opening, refusal}
use Rattle.clp_parser.specs.Readable.{is_whole, IsReadable}

pub not_bad : (k : Lexeme) → is_whole k ≡ true → k ≢ l.Bad
not_bad k h e = let f : is_whole k ≡ false = rw e refl in cc

-- ---- before, between and after clauses

pub whole_readable : (text : List ℕ) → IsUtf8 text → length text < 2 ^ 32 → IsReadable (whole text) []
whole_readable text u small = record { text = u; small = omega (arith, small) }

pub start_readable : (r : Remaining) (names : List (List ℕ)) → IsReadable r names → IsReadable r []
start_readable r names h = record { text = h.text; small = omega (arith, h.small) }

-- ---- behind a token

pub next_readable : (r : Remaining) (names : List (List ℕ)) → IsReadable r names → is_whole (lexeme r) ≡ true → IsReadable (next r) names
next_readable r names h good = record { text = next_is_text r h.text (not_bad (lexeme r) good); small = omega (arith, h.small, next_within r) }

after_within : (wanted : Lexeme) (r : Remaining) → length (after wanted r).text ≤ length r.text
unfolding after
after_within wanted r = go (sees wanted r)
  where
    go : (t : Bool) → length (cond t (next r) r).text ≤ length r.text
    go true = next_within r
    go false = omega arith

pub after_readable : (wanted : Lexeme) (r : Remaining) (names : List (List ℕ)) → IsReadable r names → is_whole wanted ≡ true → IsReadable (after wanted r) names
after_readable wanted r names h good = record { text = after_is_text wanted r h.text (not_bad wanted good); small = omega (arith, h.small, after_within wanted r) }

-- ---- words

pub spelling_readable : (r : Remaining) (names : List (List ℕ)) → IsReadable r names → is_whole (lexeme r) ≡ true → IsUtf8 (spelling r)
spelling_readable r names h good = spelling_is_text r h.text (not_bad (lexeme r) good)

pub name_readable : (r : Remaining) (names : List (List ℕ)) → IsReadable r names → is_whole (lexeme r) ≡ true → IsUtf8 (name_by (lexeme r) (spelling r))
name_readable r names h good = name_is_text r h.text (not_bad (lexeme r) good)

has_byte : (after_number : Bool) (z : List ℕ) → (tokens.token after_number z).lexeme ≡ l.Variable → 0 < length (take (tokens.token after_number z).len z)
unfolding tokens.token
has_byte after_number [] h = cc
has_byte after_number (b ∷ z) h =
    let good : is_whole (tokens.token after_number (b ∷ z)).lexeme ≡ true = rw h refl in
    let end = (token_is_low after_number b z (not_bad _ good)).1 in
    omega (arith, length-take-le (tokens.token after_number (b ∷ z)).len (b ∷ z) (omega (arith, end.1, end.2)), end.1)

pub variable_has_byte : (r : Remaining) → lexeme r ≡ l.Variable → 0 < length (spelling r)
unfolding lexeme spelling next_token
variable_has_byte r h = has_byte (touches_number r) (ahead r) h

-- a variable leaves room for its name
pub variable_leaves_room : (r : Remaining) (names : List (List ℕ)) → IsReadable r names → lexeme r ≡ l.Variable → length (next r).text + length names + 1 < 2 ^ 32
variable_leaves_room r names h e = let other : lexeme r ≢ l.Finish = λ f. cc in omega (arith, h.small, token_moves r other)

pub named_readable : (r : Remaining) (names : List (List ℕ)) (word : List ℕ) → IsUtf8 r.text → length r.text + length names + 1 < 2 ^ 32 → IsReadable r (names ++ word ∷ [])
named_readable r names word u room = record { text = u; small = omega (arith, room, length-append names (word ∷ [])) }

-- ---- refusals

pub refusal_before : (more : ℕ) (r : Remaining) → 0 < more → refusal more r ≡ token.refusal r
unfolding refusal
refusal_before zero r h = absurd (omega (arith, h))
refusal_before (suc more) r h = refl

pub refusal_at_last : (more : ℕ) (r : Remaining) → more ≤ 0 → refusal more r ≡ cond (is_opening (lexeme r)) (token.fault_at TooDeep r) (token.refusal r)
unfolding refusal
refusal_at_last zero r h = refl
refusal_at_last (suc more) r h = absurd (omega (arith, h))
