-- Printed certificates are read again.
use Rattle.std.proofs.Common.{◌≡◌, ℕ, zero, suc, ◌≤◌, ◌<◌, Bool, true, false, List, [], ◌∷◌, ◌++◌, length, map, refl, ap, ◌∙◌, arith, append_assoc, length-append, codes, ℤ, pos, negsuc}
use Rattle.std.proofs.lemmas.Bool.{and_parts}
use Rattle.std.proofs.lemmas.Bool.Decides.{nat_tests}
use Rattle.std.specs.Fmt.{decimal, signed_decimal}
use Rattle.std.specs.Prelude.{nat_le, unsigned_abs, neg_ℤ, if◌then◌else◌}
use Rattle.token_model.specs.declared.token.Lexeme.{Lexeme}
use Rattle.token_model.specs.declared.token.Lexeme.TheVariants as l
use Rattle.token_model.specs.declared.fault.Kind.TheVariants.{Unexpected, BadNumber}
use Rattle.token_model.specs.Marks.{mark}
use Rattle.token_model.specs.Tokens.{token}
use Rattle.token_model.specs.White.{skipped}
use Rattle.token_model.specs.Remaining.{Remaining, ahead, left, lexeme, same_lexeme}
use Rattle.token_model.specs.Parsers.{Parser, ◌>>=◌, ◌>>◌, ◌<$>◌, pure}
use Rattle.print_model.specs.Joined.{joined}
use Rattle.printed_tokens.specs.Next.{EndsName, EndsNumber}
use Rattle.printed_tokens.proofs.Next.{at_front}
use Rattle.printed_tokens.proofs.Numbers.{number_is, number_stays}
use Rattle.printed_tokens.proofs.Marks.{open_square_is, close_square_is, comma_is, end_is}
use Rattle.parsing_laws.specs.Behind.{behind, IsEndBefore}
use Rattle.parsing_laws.proofs.Factors.{number_factor}
use Rattle.linear_model.specs.Certificates.{Part}
use Rattle.linear_model.specs.Chain.{multiplier_limit, weights_within}
use Rattle.farkas_check.specs.declared.cert.Cert.{Cert}
use Rattle.farkas_check.specs.declared.cert.Cert.TheVariants.{One, Two}
use Rattle.farkas_check.specs.Parts.{part_within}
use Rattle.map_model.specs.declared.shown.Shown.{Shown}
use Rattle.map_model.specs.declared.shown.Shown.TheVariants.{Find, Given}
use Rattle.case_table.specs.declared.rule_word.RuleWord.TheVariants as rule
use Rattle.case_table.specs.Rules.{rule_word}
use Rattle.script_grammar.specs.Fields.{word, number_within}
use Rattle.script_grammar.specs.Certificates as grammar
use Rattle.script_grammar.specs.Certificates.{multiplier, multipliers_from}
use Rattle.script_grammar.specs.ScriptText.{word_text, part_text, certificate_text, show_text, shown_text, IsCertificate, IsShown}
use Rattle.script_laws.proofs.Tokens.{Reads, Comes, goes_on, reads_nothing, expected, eaten, left_alone, chosen, not_chosen, plain_comes, word_read, number_read, number_ends_at_comma, number_ends_at_bracket}

-- ---- multipliers

true_at_most : (a b : ℕ) → nat_le a b ≡ true → a ≤ b
true_at_most a b h = grind (arith, nat_tests)

magnitude_read : (n : ℕ) (rest : List ℕ) → n ≤ multiplier_limit → EndsNumber rest → Reads (number_within 0 multiplier_limit BadNumber) (decimal n ++ rest) n rest
magnitude_read n rest most ends = number_read 0 multiplier_limit BadNumber n (decimal n ++ rest) rest (omega arith) most (omega arith) (number_stays n rest (omega arith)) ends

-- behind a sign, or without one
signed_by : Bool → Parser Remaining ℤ
signed_by is_negative = number_within 0 multiplier_limit BadNumber >>= (λ magnitude. pure (if is_negative then neg_ℤ (pos magnitude) else pos magnitude))

multiplier_read : (z : ℤ) (rest : List ℕ) → nat_le (unsigned_abs z) multiplier_limit ≡ true → EndsNumber rest → Reads multiplier (signed_decimal z ++ rest) z rest
unfolding multiplier same_lexeme ahead skipped signed_by
multiplier_read (pos n) rest within ends =
    let most : n ≤ multiplier_limit = true_at_most n multiplier_limit within in
    let other : (a : Bool) → same_lexeme (lexeme (behind (decimal n ++ rest) a)) l.Minus ≡ false =
    λ a. ap (λ (k : Lexeme). same_lexeme k l.Minus) (number_is (behind (decimal n ++ rest) a) n rest (omega arith) (number_stays n rest (omega arith)) ends).lexeme in
    goes_on signed_by (left_alone l.Minus (decimal n ++ rest) other) (goes_on _ (magnitude_read n rest most ends) (reads_nothing (pos n) rest))
multiplier_read (negsuc n) rest within ends =
    let most : suc n ≤ multiplier_limit = true_at_most (suc n) multiplier_limit within in
    let text = 45 ∷ (decimal (suc n) ++ rest) in
    goes_on signed_by (eaten l.Minus (45 ∷ []) text (decimal (suc n) ++ rest) (λ a. (number_factor (λ (v : ℕ). v) (suc n) (omega arith)).minus (behind text a) rest refl))
    (goes_on _ (magnitude_read (suc n) rest most ends) (reads_nothing (negsuc n) rest))

-- the multipliers after the first
abbrev further : List ℤ → List ℕ
further ms = joined (codes ",") (codes ",") (map signed_decimal ms)

-- where a comma follows, or none
further_by : ℕ → List ℤ → Bool → Parser Remaining (List ℤ)
further_by n found goes_on = if goes_on then multipliers_from n found else pure found

multipliers_read : (k : ℤ) (ms found : List ℤ) (turns : ℕ) (rest : List ℕ) → nat_le (unsigned_abs k) multiplier_limit ≡ true → weights_within ms ≡ true → length ms < turns
    → Reads (multipliers_from turns found) (signed_decimal k ++ (further ms ++ 93 ∷ rest)) (found ++ k ∷ ms) (93 ∷ rest)
unfolding multipliers_from same_lexeme ahead skipped further_by
multipliers_read k ms found zero rest within all few = absurd (omega arith)
multipliers_read k [] found (suc n) rest within all few =
    let other : (a : Bool) → same_lexeme (lexeme (behind (93 ∷ rest) a)) l.Comma ≡ false =
    λ a. ap (λ (k : Lexeme). same_lexeme k l.Comma) (close_square_is (behind (93 ∷ rest) a) rest refl).lexeme in
    goes_on _ (multiplier_read k (93 ∷ rest) within (number_ends_at_bracket rest))
    (goes_on (further_by n (found ++ k ∷ [])) (left_alone l.Comma (93 ∷ rest) other) (reads_nothing (found ++ k ∷ []) (93 ∷ rest)))
multipliers_read k (m ∷ ms) found (suc n) rest within all few =
    let both = and_parts (nat_le (unsigned_abs m) multiplier_limit) (weights_within ms) all in
    let others = signed_decimal m ++ (further ms ++ 93 ∷ rest) in
    let text : further (m ∷ ms) ++ 93 ∷ rest ≡ 44 ∷ others = ap (λ (z : List ℕ). 44 ∷ z) (append_assoc (signed_decimal m) (further ms) (93 ∷ rest)) in
    let again : Reads (multipliers_from n (found ++ k ∷ [])) others (found ++ k ∷ m ∷ ms) (93 ∷ rest) = rw (append_assoc found (k ∷ []) (m ∷ ms)) at (multipliers_read m ms (found ++ k ∷ []) n rest both.0 both.1 (omega arith)) in
    let all_read : Reads (multipliers_from (suc n) found) (signed_decimal k ++ 44 ∷ others) (found ++ k ∷ m ∷ ms) (93 ∷ rest) =
    goes_on _ (multiplier_read k (44 ∷ others) within (number_ends_at_comma others))
    (goes_on (further_by n (found ++ k ∷ [])) (eaten l.Comma (44 ∷ []) (44 ∷ others) others (λ a. comma_is (behind (44 ∷ others) a) others refl)) again) in
    rw text all_read

-- ---- parts

further_long : (ms : List ℤ) → length ms ≤ length (further ms)
further_long [] = omega arith
further_long (m ∷ ms) = omega (arith, further_long ms, length-append (signed_decimal m) (further ms))

signed_stays : (z : ℤ) (y : List ℕ) → nat_le (unsigned_abs z) multiplier_limit ≡ true → skipped (signed_decimal z ++ y) ≡ signed_decimal z ++ y
unfolding skipped
signed_stays (pos n) y within = let most : n ≤ multiplier_limit = true_at_most n multiplier_limit within in number_stays n y (omega arith)
signed_stays (negsuc n) y within = refl

enough_turns : (p : Part) (rest : List ℕ) → nat_le (unsigned_abs p.k) multiplier_limit ≡ true → length p.m < length (skipped (signed_decimal p.k ++ (further p.m ++ 93 ∷ rest)))
enough_turns p rest within =
    rw (signed_stays p.k (further p.m ++ 93 ∷ rest) within)
    (omega (arith, further_long p.m, length-append (signed_decimal p.k) (further p.m ++ 93 ∷ rest), length-append (further p.m) (93 ∷ rest)))

pub by_left : {A : Type 0} (p : ℕ → Parser Remaining A) (text : List ℕ) (a : A) (rest : List ℕ) → Reads (p (length (skipped text))) text a rest → Reads (λ r. p (left r) r) text a rest
unfolding left ahead
by_left p text a rest h = record { is = h.is }

pub part_read : (p : Part) (text rest : List ℕ) → part_within p ≡ true → skipped text ≡ part_text p ++ rest → Reads grammar.part text p rest
unfolding grammar.part ahead skipped
part_read p text rest within front =
    let both = and_parts (nat_le (unsigned_abs p.k) multiplier_limit) (weights_within p.m) within in
    let inside = signed_decimal p.k ++ (further p.m ++ 93 ∷ rest) in
    let here : skipped text ≡ 91 ∷ inside =
    front ∙ ap (λ (z : List ℕ). 91 ∷ z) (append_assoc (signed_decimal p.k) (further p.m ++ codes "]") rest ∙ ap (λ (z : List ℕ). signed_decimal p.k ++ z) (append_assoc (further p.m) (codes "]") rest)) in
    goes_on _ (expected l.OpenSquare (91 ∷ []) text inside (λ a. open_square_is (behind text a) inside here))
    (goes_on _ (by_left (λ n. multipliers_from n []) inside (p.k ∷ p.m) (93 ∷ rest) (multipliers_read p.k p.m [] (length (skipped inside)) rest both.0 both.1 (enough_turns p rest both.0)))
    (goes_on _ (expected l.CloseSquare (93 ∷ []) (93 ∷ rest) rest (λ a. close_square_is (behind (93 ∷ rest) a) rest refl)) (reads_nothing p rest)))

-- ---- certificates

-- a certificate has a second part, or not
second_by : Part → Bool → Parser Remaining Cert
second_by first has_second = if has_second then Two first <$> grammar.part else pure (One first)

-- no further part of a certificate stands here
abbrev pub NoPart : List ℕ → Type 0
NoPart rest = (after_number : Bool) → same_lexeme (lexeme (behind rest after_number)) l.Over ≡ false

pub certificate_read : (c : Cert) (text rest : List ℕ) → IsCertificate c → NoPart rest → skipped text ≡ certificate_text c ++ rest → Reads grammar.certificate text c rest
unfolding grammar.certificate ahead skipped second_by token mark
certificate_read (One p) text rest within ends front = goes_on _ (part_read p text rest within front) (goes_on (second_by p) (left_alone l.Over rest ends) (reads_nothing (One p) rest))
certificate_read (Two p q) text rest within ends front =
    let second = part_text q ++ rest in
    let here : skipped text ≡ part_text p ++ 47 ∷ second = front ∙ append_assoc (part_text p) (codes "/" ++ part_text q) rest in
    goes_on _ (part_read p text (47 ∷ second) within.0 here)
    (goes_on (second_by p) (eaten l.Over (47 ∷ []) (47 ∷ second) second (λ a. at_front (behind (47 ∷ second) a) (47 ∷ []) second l.Over refl (λ b. refl)))
    (goes_on _ (part_read q second rest within.1 refl) (reads_nothing (Two p q) rest)))

pub no_part_at_end : (rest : List ℕ) → IsEndBefore rest → NoPart (46 ∷ rest)
unfolding same_lexeme ahead skipped
no_part_at_end rest ends a = ap (λ (k : Lexeme). same_lexeme k l.Over) (end_is (behind (46 ∷ rest) a) rest ends refl).lexeme

-- ---- what shows a step

pub show_text_is : (show : Shown) (rest : List ℕ) → show_text show ++ rest ≡ word_text rule.Show ++ 32 ∷ (shown_text show ++ rest)
show_text_is Find rest = refl
show_text_is (Given c) rest = refl

-- a certificate begins with a bracket
pub certificate_begins : (c : Cert) (text rest : List ℕ) → skipped text ≡ certificate_text c ++ rest → (a : Bool) → lexeme (behind text a) ≡ l.OpenSquare
unfolding ahead
certificate_begins (One p) text rest front a = (open_square_is (behind text a) _ front).lexeme
certificate_begins (Two p q) text rest front a = (open_square_is (behind text a) _ (front ∙ append_assoc (part_text p) (codes "/" ++ part_text q) rest)).lexeme

pub bracket_is_no_name : (k : Lexeme) → k ≡ l.OpenSquare → same_lexeme k l.Name ≡ false
unfolding same_lexeme
bracket_is_no_name k e = ap (λ (found : Lexeme). same_lexeme found l.Name) e

certificate_stays : (c : Cert) (y : List ℕ) → skipped (certificate_text c ++ y) ≡ certificate_text c ++ y
unfolding skipped
certificate_stays (One p) y = refl
certificate_stays (Two p q) y = refl

-- what shows a row begins with no white and no comment
pub shown_stays : (show : Shown) (rest : List ℕ) → skipped (shown_text show ++ rest) ≡ shown_text show ++ rest
unfolding skipped
shown_stays Find rest = refl
shown_stays (Given c) rest = certificate_stays c rest

pub find_comes : (text rest : List ℕ) → EndsName rest → skipped text ≡ rule_word rule.Find ++ rest → Comes text l.Name (rule_word rule.Find) rest
find_comes text rest ends front = plain_comes (rule_word rule.Find) text rest refl (omega arith) front ends

pub name_is_name : (k : Lexeme) → k ≡ l.Name → same_lexeme k l.Name ≡ true
unfolding same_lexeme
name_is_name k e = ap (λ (found : Lexeme). same_lexeme found l.Name) e

pub shown_read : (show : Shown) (text rest : List ℕ) → IsShown show → EndsName rest → NoPart rest → skipped text ≡ shown_text show ++ rest → Reads grammar.shown text show rest
unfolding grammar.shown
shown_read Find text rest within ends no_part front =
    chosen l.Name (word rule.Find >> pure Find) (Given <$> grammar.certificate) text Find rest (λ a. name_is_name _ (find_comes text rest ends front a).lexeme)
    (goes_on _ (word_read Unexpected (rule_word rule.Find) text rest refl (omega arith) front ends) (reads_nothing Find rest))
shown_read (Given c) text rest within ends no_part front =
    not_chosen l.Name (word rule.Find >> pure Find) (Given <$> grammar.certificate) text (Given c) rest (λ a. bracket_is_no_name _ (certificate_begins c text rest front a))
    (goes_on _ (certificate_read c text rest within no_part front) (reads_nothing (Given c) rest))
