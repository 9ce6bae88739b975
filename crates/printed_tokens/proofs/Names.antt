-- Printed names and variables.
use Rattle.std.proofs.Common.{◌≡◌, ℕ, suc, ◌+◌, ◌-◌, ◌<◌, ◌≤◌, ◌^◌, Bool, true, false, List, [], ◌∷◌, ◌++◌, length, take, refl, sym, ap, ◌∙◌, arith, cond, append_assoc, length-append, Some}
use Rattle.std.proofs.lemmas.Bool.{and_parts}
use Rattle.std.proofs.lemmas.Bool.Decides.{nat_tests}
use Rattle.std.proofs.lemmas.Fmt.{decimal_is_IsNumeral, length-decimal-le}
use Rattle.std.specs.Char.{is_ascii_lowercase, digit_value}
use Rattle.std.specs.Fmt.{decimal}
use Rattle.std.specs.Prelude.{◌==◌, nat_lt, codes, option_map}
use Rattle.std.specs.Str.Parse.{AllDigits}
use Rattle.token_model.specs.declared.token.Lexeme.TheVariants as l
use Rattle.token_model.specs.White.{is_white, skipped}
use Rattle.token_model.specs.Names.{is_word, word_len, word, max_name, closing, after_quote, after_backslash, unescaped, after_mark, quoted_name, quoted_by, unless_long}
use Rattle.token_model.specs.Names as token_names
use Rattle.token_model.specs.Tokens.{token}
use Rattle.token_model.specs.Remaining.{Remaining, ahead}
use Rattle.print_model.specs.Names.{are_word, is_plain, escaped, all_escaped, quoted, predicate_text}
use Rattle.print_model.specs.Terms.{variable_text}
use Rattle.printed_tokens.specs.Next.{NextIs, begins_with_quote}
use Rattle.printed_tokens.specs.Laws.{NamesAreTokens, QuotedNamesAreTakenBack, VariablesAreTokens}
use Rattle.printed_tokens.proofs.Next.{at_front, take_front}

pub short : (n : ℕ) → n ≤ max_name → nat_lt max_name n ≡ false
short n h = grind (arith, nat_tests)

-- ---- plain names and variables

pub word_len-append : (bs rest : List ℕ) → are_word bs ≡ true → word_len rest ≡ 0 → word_len (bs ++ rest) ≡ length bs
word_len-append [] rest w h = h
word_len-append (b ∷ bs) rest w h = let p = and_parts (is_word b) (are_word bs) w in rw p.0 (ap suc (word_len-append bs rest p.1 h))

lower_word : (b : ℕ) → is_ascii_lowercase b ≡ true → is_word b ≡ true
lower_word b h = grind (arith, nat_tests)

plain_token : (b : ℕ) (bs rest : List ℕ) (after_number : Bool) → is_plain (b ∷ bs) ≡ true → length (b ∷ bs) ≤ max_name → word_len rest ≡ 0
    → token after_number (b ∷ (bs ++ rest)) ≡ record { lexeme = l.Name; len = length (b ∷ bs) }
unfolding token word
plain_token b bs rest after_number plain few h =
    let p = and_parts (is_ascii_lowercase b) (are_word bs) plain in
    let all : are_word (b ∷ bs) ≡ true = rw (lower_word b p.0) p.1 in
    rw (word_len-append (b ∷ bs) rest all h, short (length (b ∷ bs)) few, p.0) refl

plain_is : (r : Remaining) (name rest : List ℕ) → is_plain name ≡ true → length name ≤ max_name → ahead r ≡ name ++ rest → word_len rest ≡ 0 → NextIs r l.Name name rest
plain_is r [] rest plain few front h = absurd (cc)
plain_is r (b ∷ bs) rest plain few front h = at_front r (b ∷ bs) rest l.Name front (λ a. plain_token b bs rest a plain few h)

v_token : (bs rest : List ℕ) (after_number : Bool) → are_word bs ≡ true → length bs < max_name → word_len rest ≡ 0
    → token after_number (86 ∷ (bs ++ rest)) ≡ record { lexeme = l.Variable; len = suc (length bs) }
unfolding token word
v_token bs rest after_number w few h =
    let n : nat_lt max_name (suc (length bs)) ≡ false = short (suc (length bs)) (omega arith) in
    rw (word_len-append bs rest w h, n) refl

digit_is_word : (b : ℕ) → digit_value b < 10 → is_word b ≡ true
digit_is_word b h = grind (arith, nat_tests)

pub digits_are_word : (ds : List ℕ) → AllDigits 10 ds → are_word ds ≡ true
digits_are_word [] h = refl
digits_are_word (d ∷ ds) h = rw (digit_is_word d h.0) (digits_are_word ds h.1)

pub variable_is : VariablesAreTokens
variable_is r n rest small front ends =
    let few : n < 10 ^ 20 = omega arith in
    let len : length (decimal n) < max_name = omega (arith, length-decimal-le 20 n (omega arith) few small) in
    let words = digits_are_word (decimal n) (decimal_is_IsNumeral n small).0.1 in
    at_front r (variable_text n) rest l.Variable front (λ a. v_token (decimal n) rest a words len ends.word)

-- ---- quoted names

-- how a byte stands between quotes
data Escape : ℕ → List ℕ → Type 0 where
  backslash : Escape 92 (92 ∷ 92 ∷ [])
  quote : Escape 39 (92 ∷ 39 ∷ [])
  line : Escape 10 (92 ∷ 110 ∷ [])
  tab : Escape 9 (92 ∷ 116 ∷ [])
  itself : (b : ℕ) → (b == 92) ≡ false → (b == 39) ≡ false → (b == 10) ≡ false → Escape b (b ∷ [])

same_if : (b k : ℕ) → (b == k) ≡ true → k ≡ b
same_if b k e = grind (arith, nat_tests)

escape_of : (b : ℕ) → Escape b (escaped b)
escape_of b = go (b == 92) refl (b == 39) refl (b == 10) refl (b == 9) refl
  where
    go : (s : Bool) → (b == 92) ≡ s → (t : Bool) → (b == 39) ≡ t → (u : Bool) → (b == 10) ≡ u → (v : Bool) → (b == 9) ≡ v
        → Escape b (cond s (codes "\\\\") (cond t (codes "\\'") (cond u (codes "\\n") (cond v (codes "\\t") (b ∷ [])))))
    go true e t f u g v h = rw (sym (same_if b 92 e)) backslash
    go false e true f u g v h = rw (sym (same_if b 39 f)) quote
    go false e false f true g v h = rw (sym (same_if b 10 g)) line
    go false e false f false g true h = rw (sym (same_if b 9 h)) tab
    go false e false f false g false h = itself b e f g

closing_escape : (b : ℕ) (bs z : List ℕ) (n : ℕ) → Escape b bs → closing z ≡ Some n → closing (bs ++ z) ≡ Some (length bs + n)
unfolding closing
closing_escape b bs z n (backslash) e = ap (option_map (λ n. suc (suc n))) e ∙ ap Some (let f : suc (suc n) ≡ 2 + n = omega arith in f)
closing_escape b bs z n (quote) e = ap (option_map (λ n. suc (suc n))) e ∙ ap Some (let f : suc (suc n) ≡ 2 + n = omega arith in f)
closing_escape b bs z n (line) e = ap (option_map (λ n. suc (suc n))) e ∙ ap Some (let f : suc (suc n) ≡ 2 + n = omega arith in f)
closing_escape b bs z n (tab) e = ap (option_map (λ n. suc (suc n))) e ∙ ap Some (let f : suc (suc n) ≡ 2 + n = omega arith in f)
closing_escape b bs z n (itself c p q s) e = rw (q, p, s) (ap (option_map suc) e ∙ ap Some (let f : suc n ≡ 1 + n = omega arith in f))

unescaped_escape : (b : ℕ) (bs z : List ℕ) → Escape b bs → unescaped (bs ++ z) ≡ b ∷ unescaped z
unfolding unescaped
unescaped_escape b bs z (backslash) = refl
unescaped_escape b bs z (quote) = refl
unescaped_escape b bs z (line) = refl
unescaped_escape b bs z (tab) = refl
unescaped_escape b bs z (itself c p q s) = rw (q, p) refl

closing_quote : (rest : List ℕ) → begins_with_quote rest ≡ false → closing (39 ∷ rest) ≡ Some 1
unfolding closing
closing_quote [] h = refl
closing_quote (b ∷ rest) h = rw h refl

closing_escaped : (name rest : List ℕ) → begins_with_quote rest ≡ false → closing (all_escaped name ++ 39 ∷ rest) ≡ Some (length (all_escaped name) + 1)
closing_escaped [] rest h = closing_quote rest h
closing_escaped (b ∷ name) rest h =
    ap closing (append_assoc (escaped b) (all_escaped name) (39 ∷ rest))
    ∙ closing_escape b (escaped b) (all_escaped name ++ 39 ∷ rest) (length (all_escaped name) + 1) (escape_of b) (closing_escaped name rest h)
    ∙ ap Some (let f : length (escaped b) + (length (all_escaped name) + 1) ≡ length (escaped b ++ all_escaped name) + 1 = omega (arith, length-append (escaped b) (all_escaped name)) in f)

unescaped_escaped : (name : List ℕ) → unescaped (all_escaped name) ≡ name
unfolding unescaped
unescaped_escaped [] = refl
unescaped_escaped (b ∷ name) = unescaped_escape b (escaped b) (all_escaped name) (escape_of b) ∙ ap (λ (z : List ℕ). b ∷ z) (unescaped_escaped name)

pub quoted_back : QuotedNamesAreTakenBack
quoted_back name =
    let n : length (quoted name) - 2 ≡ length (all_escaped name) = omega (arith, length-append (all_escaped name) (codes "'")) in
    ap (λ (m : ℕ). unescaped (take m (all_escaped name ++ codes "'"))) n
    ∙ ap unescaped (take_front (all_escaped name) (codes "'")) ∙ unescaped_escaped name

quoted_len : (name : List ℕ) → suc (length (all_escaped name) + 1) ≡ length (quoted name)
quoted_len name = omega (arith, length-append (all_escaped name) (codes "'"))

spelled : (name rest : List ℕ) → quoted name ++ rest ≡ 39 ∷ (all_escaped name ++ 39 ∷ rest)
spelled name rest = ap (λ (z : List ℕ). 39 ∷ z) (append_assoc (all_escaped name) (codes "'") rest)

quoted_token : (name rest : List ℕ) (after_number : Bool) → length name ≤ max_name → begins_with_quote rest ≡ false
    → token after_number (quoted name ++ rest) ≡ record { lexeme = l.Quoted; len = length (quoted name) }
unfolding token token_names.quoted
quoted_token name rest after_number few h =
    let text = quoted name ++ rest in
    let len = length (all_escaped name) + 1 in
    let inside : closing ((all_escaped name ++ codes "'") ++ rest) ≡ Some len = ap closing (append_assoc (all_escaped name) (codes "'") rest) ∙ closing_escaped name rest h in
    let front : take (suc len) text ≡ quoted name = ap (λ (m : ℕ). take m text) (quoted_len name) ∙ take_front (quoted name) rest in
    let size : length (quoted_name (take (suc len) text)) ≡ length name = ap (λ (z : List ℕ). length (quoted_name z)) front ∙ ap length (quoted_back name) in
    ap (quoted_by text) inside
    ∙ (ap (λ (m : ℕ). record { lexeme = unless_long l.Quoted m; len = suc len }) size
    ∙ (ap (λ (t : Bool). record { lexeme = cond t l.NameTooLong l.Quoted; len = suc len }) (short (length name) few)
    ∙ ap (λ (m : ℕ). record { lexeme = l.Quoted; len = m }) (quoted_len name)))

-- ---- names

pub name_is : NamesAreTokens
unfolding predicate_text
name_is r name rest few front ends = go (is_plain name) refl front
  where
    go : (t : Bool) → is_plain name ≡ t → ahead r ≡ cond t name (quoted name) ++ rest → NextIs r (cond t l.Name l.Quoted) (cond t name (quoted name)) rest
    go true e f = plain_is r name rest e few f ends.word
    go false e f = at_front r (quoted name) rest l.Quoted f (λ a. quoted_token name rest a few ends.quote)

lower_stays : (b : ℕ) (z : List ℕ) → is_ascii_lowercase b ≡ true → skipped (b ∷ z) ≡ b ∷ z
unfolding skipped
lower_stays b z h =
    let w : is_white b ≡ false = grind (arith, nat_tests) in
    let p : (b == 37) ≡ false = grind (arith, nat_tests) in
    let s : (b == 47) ≡ false = grind (arith, nat_tests) in
    rw (w, p, s) refl

-- no printed name begins with white or a comment
pub name_stays : (name rest : List ℕ) → skipped (predicate_text name ++ rest) ≡ predicate_text name ++ rest
unfolding predicate_text skipped
name_stays name rest = go (is_plain name) refl
  where
    plain : (z : List ℕ) → is_plain z ≡ true → skipped (z ++ rest) ≡ z ++ rest
    plain [] e = absurd (cc)
    plain (b ∷ bs) e = lower_stays b (bs ++ rest) (and_parts (is_ascii_lowercase b) (are_word bs) e).0

    go : (t : Bool) → is_plain name ≡ t → skipped (cond t name (quoted name) ++ rest) ≡ cond t name (quoted name) ++ rest
    go true e = plain name e
    go false e = refl

pub variable_stays : (n : ℕ) (rest : List ℕ) → skipped (variable_text n ++ rest) ≡ variable_text n ++ rest
unfolding skipped
variable_stays n rest = refl
