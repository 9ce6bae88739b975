-- Printed numbers.
use Rattle.std.proofs.Common.{◌≡◌, ℕ, suc, ◌<◌, ◌≤◌, Bool, true, false, ◌||◌, List, [], ◌∷◌, ◌++◌, length, refl, ap, arith}
use Rattle.std.proofs.lemmas.Bool.Decides.{nat_tests}
use Rattle.std.proofs.lemmas.Fmt.{decimal_is_IsNumeral}
use Rattle.std.specs.Char.{is_ascii_digit, is_ascii_lowercase, is_ascii_uppercase, digit_value}
use Rattle.std.specs.Fmt.{decimal}
use Rattle.std.specs.Prelude.{◌==◌, nat_lt}
use Rattle.std.specs.Str.Parse.{AllDigits}
use Rattle.token_model.specs.declared.token.Lexeme.TheVariants as l
use Rattle.token_model.specs.White.{is_white, skipped}
use Rattle.token_model.specs.Numbers.{digits_len, number_value, max_number, number, lexeme_of_digits}
use Rattle.token_model.specs.Tokens.{token}
use Rattle.token_model.specs.Remaining.{Remaining, ahead}
use Rattle.printed_tokens.specs.Next.{NextIs, EndsNumber}
use Rattle.printed_tokens.specs.Laws.{NumbersAreTokens, NumbersAreTakenBack}
use Rattle.printed_tokens.proofs.Next.{at_front, take_front, drop_front}

is_digit : (b : ℕ) → digit_value b < 10 → is_ascii_digit b ≡ true
is_digit b h = grind (arith, nat_tests)

pub digits_len-append : (ds rest : List ℕ) → AllDigits 10 ds → digits_len rest ≡ 0 → digits_len (ds ++ rest) ≡ length ds
digits_len-append [] rest w h = h
digits_len-append (d ∷ ds) rest w h = rw (is_digit d w.0) (ap suc (digits_len-append ds rest w.1 h))

digit_first : (b : ℕ) → digit_value b < 10 → (is_ascii_lowercase b ≡ false) × ((is_ascii_uppercase b || b == 95) ≡ false) × (is_ascii_digit b ≡ true)
digit_first b h = grind (arith, nat_tests)

value_fits : (v : ℕ) → v ≤ max_number → nat_lt max_number v ≡ false
value_fits v h = grind (arith, nat_tests)

digits_number : (ds rest : List ℕ) → AllDigits 10 ds → number_value ds ≤ max_number → EndsNumber rest → number (ds ++ rest) ≡ record { lexeme = l.Number; len = length ds }
unfolding number lexeme_of_digits
digits_number ds rest all small ends =
    rw (digits_len-append ds rest all ends.digits, drop_front ds rest, take_front ds rest, ends.joins, value_fits (number_value ds) small) refl

digits_token : (d : ℕ) (ds rest : List ℕ) (after_number : Bool) → AllDigits 10 (d ∷ ds) → number_value (d ∷ ds) ≤ max_number → EndsNumber rest
    → token after_number (d ∷ (ds ++ rest)) ≡ record { lexeme = l.Number; len = length (d ∷ ds) }
unfolding token
digits_token d ds rest after_number all small ends =
    let first = digit_first d all.0 in
    rw (first.0, first.1, first.2) (digits_number (d ∷ ds) rest all small ends)

-- digits of any number, leading zeros too
pub digits_is : (r : Remaining) (ds rest : List ℕ) → 0 < length ds → AllDigits 10 ds → number_value ds ≤ max_number → ahead r ≡ ds ++ rest → EndsNumber rest → NextIs r l.Number ds rest
digits_is r [] rest some all small front ends = absurd (omega arith)
digits_is r (d ∷ ds) rest some all small front ends = at_front r (d ∷ ds) rest l.Number front (λ a. digits_token d ds rest a all small ends)

pub number_back : NumbersAreTakenBack
number_back n small = (decimal_is_IsNumeral n (omega arith)).1

pub number_is : NumbersAreTokens
number_is r n rest small front ends =
    let d = decimal_is_IsNumeral n (omega arith) in
    digits_is r (decimal n) rest d.0.0 d.0.1 (rw d.1 small) front ends

digit_stays : (d : ℕ) (z : List ℕ) → digit_value d < 10 → skipped (d ∷ z) ≡ d ∷ z
unfolding skipped
digit_stays d z h =
    let w : is_white d ≡ false = grind (arith, nat_tests) in
    let p : (d == 37) ≡ false = grind (arith, nat_tests) in
    let s : (d == 47) ≡ false = grind (arith, nat_tests) in
    rw (w, p, s) refl

digits_stay : (ds rest : List ℕ) → 0 < length ds → AllDigits 10 ds → skipped (ds ++ rest) ≡ ds ++ rest
digits_stay [] rest some all = absurd (omega arith)
digits_stay (d ∷ ds) rest some all = digit_stays d (ds ++ rest) all.0

-- no printed number begins with white or a comment
pub number_stays : (n : ℕ) (rest : List ℕ) → n ≤ max_number → skipped (decimal n ++ rest) ≡ decimal n ++ rest
number_stays n rest small = let d = decimal_is_IsNumeral n (omega arith) in digits_stay (decimal n) rest d.0.0 d.0.1
