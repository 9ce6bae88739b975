-- Multipliers that are all within the limit.
use Rattle.std.proofs.Common.{◌≡◌, ℤ, ◌≤◌, Bool, true, false, ◌&&◌, List, [], ◌∷◌, ◌++◌, ap, ◌∙◌, nat_le, unsigned_abs, arith, le-leb}
use Rattle.std.specs.Prelude.{FitsSigned}
use Rattle.std.proofs.lemmas.Int.{fits_signed_from_abs, to_z-of_z}
use mir.Syntax.{w64}
use mir.Val.{to_z, of_z}
use Rattle.linear_model.specs.Chain.{multiplier_limit, weights_within}

all_of : (a b c : Bool) → (a && b) ≡ true → (b ≡ true → c ≡ true) → (a && c) ≡ true
all_of true b c h f = f h
all_of false b c h f = h

push_within : (ms : List ℤ) (m : ℤ) → weights_within ms ≡ true → unsigned_abs m ≤ multiplier_limit → weights_within (ms ++ m ∷ []) ≡ true
push_within [] m h small = ap (λ b. b && true) (le-leb (unsigned_abs m) multiplier_limit small)
push_within (x ∷ ms) m h small = all_of (nat_le (unsigned_abs x) multiplier_limit) _ _ h (λ t. push_within ms m t small)

fits : (m : ℤ) → unsigned_abs m ≤ multiplier_limit → FitsSigned w64 m
fits m small = fits_signed_from_abs w64 m (omega arith)

-- one more, which was read from its 64 bits
pub one_more_within : (ms : List ℤ) (m : ℤ) → weights_within ms ≡ true → unsigned_abs m ≤ multiplier_limit → weights_within (ms ++ to_z w64 (of_z w64 m) ∷ []) ≡ true
one_more_within ms m h small = ap (λ n. weights_within (ms ++ n ∷ [])) (to_z-of_z w64 m (fits m small)) ∙ push_within ms m h small
