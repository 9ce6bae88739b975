-- Digits that are read from the right.
use Rattle.std.proofs.Common.{◌≡◌, ℕ, suc, Bool, true, false, ◌&&◌, not, cond, List, [], ◌∷◌, reverse, refl, ◌∙◌, arith}
use Rattle.std.proofs.lemmas.Bool.Decides.{nat_tests}
use Rattle.std.specs.Char.{is_ascii_digit}
use Rattle.std.specs.Prelude.{nat_eq, nat_lt, if◌then◌else◌}
use Rattle.token_model.specs.Names.{is_word, word_len}
use Rattle.token_model.specs.Numbers.{digits_len}
use Rattle.token_at.specs.Before.{ends_in_number}

-- one or more digits have been read, or none, and this is what stands before them, from the right
abbrev pub goes_on : Bool → List ℕ → Bool
goes_on digits [] = digits
goes_on digits (b ∷ bs) = if is_ascii_digit b then goes_on true bs else digits && not (is_word b)

digit_word : (b : ℕ) → is_ascii_digit b ≡ true → is_word b ≡ true
digit_word b e = grind (arith, nat_tests)

one_more : (m n : ℕ) → nat_eq (suc m) (suc n) ≡ nat_eq m n
one_more m n = grind (arith, nat_tests)

none_left : (t : Bool) (n : ℕ) → nat_eq 0 (cond t (suc n) 0) ≡ not t
none_left true n = grind (arith, nat_tests)
none_left false n = refl

after_digits : (bs : List ℕ) → nat_eq (digits_len bs) (word_len bs) ≡ goes_on true bs
after_digits [] = refl
after_digits (b ∷ bs) = go (is_ascii_digit b) refl (after_digits bs)
  where
    go : (t : Bool) → is_ascii_digit b ≡ t → nat_eq (digits_len bs) (word_len bs) ≡ goes_on true bs
        → nat_eq (cond t (suc (digits_len bs)) 0) (cond (is_word b) (suc (word_len bs)) 0) ≡ cond t (goes_on true bs) (not (is_word b))
    go true e h = rw (digit_word b e) (one_more (digits_len bs) (word_len bs) ∙ h)
    go false e h = none_left (is_word b) (word_len bs)

from_none : (bs : List ℕ) → (nat_lt 0 (digits_len bs) && nat_eq (digits_len bs) (word_len bs)) ≡ goes_on false bs
from_none [] = refl
from_none (b ∷ bs) = go (is_ascii_digit b) refl
  where
    some : nat_lt 0 (suc (digits_len bs)) ≡ true
    some = grind (arith, nat_tests)

    go : (t : Bool) → is_ascii_digit b ≡ t
        → (nat_lt 0 (cond t (suc (digits_len bs)) 0) && nat_eq (cond t (suc (digits_len bs)) 0) (cond (is_word b) (suc (word_len bs)) 0)) ≡ cond t (goes_on true bs) false
    go true e = rw (digit_word b e, some) (one_more (digits_len bs) (word_len bs) ∙ after_digits bs)
    go false e = refl

pub whole_text : (text : List ℕ) → ends_in_number text ≡ goes_on false (reverse text)
unfolding ends_in_number
whole_text text = from_none (reverse text)
