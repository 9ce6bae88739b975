-- Marks and the end, as they are printed.
use Rattle.std.proofs.Common.{◌≡◌, ℕ, Bool, false, List, [], ◌∷◌, refl, arith}
use Rattle.std.proofs.lemmas.Bool.Decides.{nat_tests}
use Rattle.std.specs.Prelude.{◌==◌}
use Rattle.token_model.specs.declared.token.Lexeme.TheVariants as l
use Rattle.token_model.specs.Marks.{mark, dot, dot_by}
use Rattle.token_model.specs.Tokens.{token}
use Rattle.token_model.specs.Remaining.{Remaining, ahead}
use Rattle.printed_tokens.specs.Next.{NextIs}
use Rattle.printed_tokens.proofs.Next.{at_front}

pub open_round_is : (r : Remaining) (rest : List ℕ) → ahead r ≡ 40 ∷ rest → NextIs r l.OpenRound (40 ∷ []) rest
unfolding token mark
open_round_is r rest front = at_front r (40 ∷ []) rest l.OpenRound front (λ a. refl)

pub close_round_is : (r : Remaining) (rest : List ℕ) → ahead r ≡ 41 ∷ rest → NextIs r l.CloseRound (41 ∷ []) rest
unfolding token mark
close_round_is r rest front = at_front r (41 ∷ []) rest l.CloseRound front (λ a. refl)

pub open_square_is : (r : Remaining) (rest : List ℕ) → ahead r ≡ 91 ∷ rest → NextIs r l.OpenSquare (91 ∷ []) rest
unfolding token mark
open_square_is r rest front = at_front r (91 ∷ []) rest l.OpenSquare front (λ a. refl)

pub close_square_is : (r : Remaining) (rest : List ℕ) → ahead r ≡ 93 ∷ rest → NextIs r l.CloseSquare (93 ∷ []) rest
unfolding token mark
close_square_is r rest front = at_front r (93 ∷ []) rest l.CloseSquare front (λ a. refl)

pub open_curly_is : (r : Remaining) (rest : List ℕ) → ahead r ≡ 123 ∷ rest → NextIs r l.OpenCurly (123 ∷ []) rest
unfolding token mark
open_curly_is r rest front = at_front r (123 ∷ []) rest l.OpenCurly front (λ a. refl)

pub close_curly_is : (r : Remaining) (rest : List ℕ) → ahead r ≡ 125 ∷ rest → NextIs r l.CloseCurly (125 ∷ []) rest
unfolding token mark
close_curly_is r rest front = at_front r (125 ∷ []) rest l.CloseCurly front (λ a. refl)

pub comma_is : (r : Remaining) (rest : List ℕ) → ahead r ≡ 44 ∷ rest → NextIs r l.Comma (44 ∷ []) rest
unfolding token mark
comma_is r rest front = at_front r (44 ∷ []) rest l.Comma front (λ a. refl)

pub bar_is : (r : Remaining) (rest : List ℕ) → ahead r ≡ 124 ∷ rest → NextIs r l.Bar (124 ∷ []) rest
unfolding token mark
bar_is r rest front = at_front r (124 ∷ []) rest l.Bar front (λ a. refl)

pub if_is : (r : Remaining) (rest : List ℕ) → ahead r ≡ 58 ∷ 45 ∷ rest → NextIs r l.If (58 ∷ 45 ∷ []) rest
unfolding token mark
if_is r rest front = at_front r (58 ∷ 45 ∷ []) rest l.If front (λ a. refl)

-- ---- before a space

pub equal_is : (r : Remaining) (rest : List ℕ) → ahead r ≡ 61 ∷ 32 ∷ rest → NextIs r l.Equal (61 ∷ []) (32 ∷ rest)
unfolding token mark
equal_is r rest front = at_front r (61 ∷ []) (32 ∷ rest) l.Equal front (λ a. refl)

pub at_most_is : (r : Remaining) (rest : List ℕ) → ahead r ≡ 61 ∷ 60 ∷ rest → NextIs r l.AtMost (61 ∷ 60 ∷ []) rest
unfolding token mark
at_most_is r rest front = at_front r (61 ∷ 60 ∷ []) rest l.AtMost front (λ a. refl)

pub less_is : (r : Remaining) (rest : List ℕ) → ahead r ≡ 60 ∷ rest → NextIs r l.Less (60 ∷ []) rest
unfolding token mark
less_is r rest front = at_front r (60 ∷ []) rest l.Less front (λ a. refl)

pub plus_is : (r : Remaining) (rest : List ℕ) → ahead r ≡ 43 ∷ rest → NextIs r l.Plus (43 ∷ []) rest
unfolding token mark
plus_is r rest front = at_front r (43 ∷ []) rest l.Plus front (λ a. refl)

pub times_is : (r : Remaining) (rest : List ℕ) → ahead r ≡ 42 ∷ rest → NextIs r l.Times (42 ∷ []) rest
unfolding token mark
times_is r rest front = at_front r (42 ∷ []) rest l.Times front (λ a. refl)

-- a `-` that begins neither `->` nor `-->`
pub minus_is : (r : Remaining) (b : ℕ) (rest : List ℕ) → (b == 45) ≡ false → (b == 62) ≡ false → ahead r ≡ 45 ∷ b ∷ rest → NextIs r l.Minus (45 ∷ []) (b ∷ rest)
unfolding token mark
minus_is r b rest h g front =
    let h' : (45 == b) ≡ false = grind (arith, nat_tests) in
    let g' : (62 == b) ≡ false = grind (arith, nat_tests) in
    at_front r (45 ∷ []) (b ∷ rest) l.Minus front (λ a. rw (h', g') refl)

-- ---- the end

-- `.` where what follows makes it the end
pub end_is : (r : Remaining) (rest : List ℕ) → ((after_number : Bool) → dot_by after_number rest ≡ l.End) → ahead r ≡ 46 ∷ rest → NextIs r l.End (46 ∷ []) rest
unfolding token dot
end_is r rest ends front = at_front r (46 ∷ []) rest l.End front (λ a. rw (ends a) refl)
