-- What the digits at the front of a text are, and what they count.
use Rattle.std.proofs.Common.{◌≡◌, ℕ, suc, ◌+◌, ◌-◌, ◌*◌, ◌<◌, ◌≤◌, min, Bool, true, false, List, [], ◌∷◌, length, take, get_or, refl, arith, cond}
use Rattle.std.proofs.lemmas.Bool.Decides.{nat_tests}
use Rattle.std.proofs.lemmas.Int.Digits.{digits_value_more}
use Rattle.std.proofs.lemmas.Str.Parse.{digit_at}
use Rattle.std.specs.Char.{is_ascii_digit, digit_value}
use Rattle.std.specs.Str.Parse.{AllDigits}
use Rattle.token_model.specs.Numbers.{digits_len, number_value}

digit_byte : (b : ℕ) → is_ascii_digit b ≡ true → digit_value b < 10
digit_byte b h = grind (arith, nat_tests)

value_of_digit : (b : ℕ) → 48 ≤ b → b ≤ 57 → digit_value b ≡ b - 48
value_of_digit b low high = grind (arith, nat_tests)

pub digits_are_digits : (z : List ℕ) → AllDigits 10 (take (digits_len z) z)
digits_are_digits [] = tt
digits_are_digits (b ∷ z) = go (digits_are_digits z) (is_ascii_digit b) refl
  where
    go : AllDigits 10 (take (digits_len z) z) → (t : Bool) → is_ascii_digit b ≡ t → AllDigits 10 (take (cond t (suc (digits_len z)) 0) (b ∷ z))
    go rest false e = tt
    go rest true e = (digit_byte b e, rest)

pub digit_low : (ds : List ℕ) (i : ℕ) → AllDigits 10 ds → i < length ds → 48 ≤ get_or ds i 0
digit_low ds i h within = (digit_at ds i h within).0

pub digit_high : (ds : List ℕ) (i : ℕ) → AllDigits 10 ds → i < length ds → get_or ds i 0 ≤ 57
digit_high ds i h within = (digit_at ds i h within).1

kept_below : (v d most : ℕ) → min (min v (most + 1) * 10 + d) (most + 1) ≡ min (v * 10 + d) (most + 1)
kept_below v d most = omega arith

-- the value up to a limit, with one more digit
pub one_more_digit : (ds : List ℕ) (i most : ℕ) → AllDigits 10 ds → i < length ds
    → min (min (number_value (take i ds)) (most + 1) * 10 + (get_or ds i 0 - 48)) (most + 1) ≡ min (number_value (take (i + 1) ds)) (most + 1)
one_more_digit ds i most h within =
    let d = digit_at ds i h within in
    rw (digits_value_more 10 ds i within, value_of_digit (get_or ds i 0) d.0 d.1) (kept_below (number_value (take i ds)) (get_or ds i 0 - 48) most)
