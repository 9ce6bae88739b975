-- The loops over the pairs of a combination.
use Rattle.std.proofs.Common.{◌≡◌, ℕ, zero, suc, ◌<◌, ◌≤◌, ◌%◌, List, [], ◌∷◌, ◌++◌, Bool, true, false, ◌&&◌, append_assoc, arith, refl, sym, ◌∙◌, ap}
use Rattle.std.specs.Prelude.{All, nat_le, unsigned_abs, int_div, if◌then◌else◌}
use Rattle.std.specs.List.{AllByRecursion}
use Rattle.std.proofs.lemmas.List.Elements.{All-from_recursion}
use Rattle.std.proofs.lemmas.List.{append-nil}
use Rattle.std.proofs.lemmas.Bool.Decides.{nat_tests}
use Rattle.std.proofs.Math.IntN.{ℤ, pos}
use Rattle.linear_model.specs.Gcd.{gcd}
use Rattle.linear_model.specs.Forms.{is_zero, with_pair}
use Rattle.linear_model.specs.Normal.{joint_gcd, divided_pairs, limit, pairs_within}
use Rattle.chain_items.specs.Sparse.{at_most}
use Rattle.linear_laws.proofs.Gcd.{gcd_step, gcd_zero}
use Rattle.linear_laws.proofs.Sums.{zero_is}

-- ---- divisors
zero_mod : (d : ℕ) → 0 % d ≡ 0
zero_mod zero = refl
zero_mod (suc d) = omega arith

pub gcd_of_zero : (d : ℕ) → gcd 0 d ≡ d
gcd_of_zero d = gcd_step 0 d ∙ (ap (gcd d) (zero_mod d) ∙ gcd_zero d)

one_divides : (n : ℕ) → gcd n 1 ≡ 1
unfolding gcd
one_divides n = refl

pub divisor_one : (ps : List (ℕ × ℤ)) → joint_gcd 1 ps ≡ 1
divisor_one [] = refl
divisor_one (p ∷ ps) = ap (λ d. joint_gcd d ps) (one_divides (unsigned_abs p.1)) ∙ divisor_one ps

pub divisor_step : (d : ℕ) (v : ℕ) (c : ℤ) (rest : List (ℕ × ℤ)) → joint_gcd d (with_pair v c rest) ≡ joint_gcd (gcd (unsigned_abs c) d) rest
divisor_step d v c rest = by (is_zero c) refl
  where
    by : (b : Bool) → is_zero c ≡ b → joint_gcd d (if b then rest else (v, c) ∷ rest) ≡ joint_gcd (gcd (unsigned_abs c) d) rest
    by true e = sym (ap (λ z. joint_gcd (gcd (unsigned_abs z) d) rest) (zero_is c e) ∙ ap (λ n. joint_gcd n rest) (gcd_of_zero d))
    by false e = refl

-- ---- quotients
quotients_after : (d : ℤ) (old : List (ℕ × ℤ)) (v : ℕ) (c : ℤ) (rest : List (ℕ × ℤ)) → (old ++ divided_pairs d (with_pair v c [])) ++ divided_pairs d rest ≡ old ++ divided_pairs d (with_pair v c rest)
quotients_after d old v c rest = by (is_zero c)
  where
    by : (b : Bool) → (old ++ divided_pairs d (if b then [] else (v, c) ∷ [])) ++ divided_pairs d rest ≡ old ++ divided_pairs d (if b then rest else (v, c) ∷ rest)
    by true = ap (λ xs. xs ++ divided_pairs d rest) (append-nil old)
    by false = append_assoc old ((v, int_div c d) ∷ []) (divided_pairs d rest)

pub quotients_step : (d : ℤ) (out old here rest all : List (ℕ × ℤ)) (v : ℕ) (c : ℤ)
    → out ≡ old ++ divided_pairs d (with_pair v c []) → here ≡ with_pair v c rest → old ++ divided_pairs d here ≡ all → out ++ divided_pairs d rest ≡ all
quotients_step d out old here rest all v c e f g =
    ap (λ xs. xs ++ divided_pairs d rest) e ∙ (quotients_after d old v c rest ∙ (ap (λ xs. old ++ divided_pairs d xs) (sym f) ∙ g))

-- ---- ranges
pub most_test : (n b : ℕ) → n ≤ b → nat_le n b ≡ true
most_test n b h = grind (arith, nat_tests)

pub past_test : (n b : ℕ) → b < n → nat_le n b ≡ false
past_test n b h = grind (arith, nat_tests)

pub and_false : (b : Bool) → (b && false) ≡ false
and_false true = refl
and_false false = refl

pub both : (a b : Bool) → (a && b) ≡ true → (a ≡ true) × (b ≡ true)
both true true e = (refl, refl)
both true false e = cc
both false b e = cc

pub at_most_append : (bound : ℕ) (ps qs : List (ℕ × ℤ)) → at_most bound (ps ++ qs) ≡ (at_most bound ps && at_most bound qs)
at_most_append bound [] qs = refl
at_most_append bound (p ∷ ps) qs = by (nat_le (unsigned_abs p.1) bound) (at_most_append bound ps qs)
  where
    by : (b : Bool) → at_most bound (ps ++ qs) ≡ (at_most bound ps && at_most bound qs) → (b && at_most bound (ps ++ qs)) ≡ ((b && at_most bound ps) && at_most bound qs)
    by true ih = ih
    by false ih = refl

one_within : (bound : ℕ) (d : ℤ) (v : ℕ) (c : ℤ) → unsigned_abs (int_div c d) ≤ bound → at_most bound (divided_pairs d (with_pair v c [])) ≡ true
one_within bound d v c h = by (is_zero c)
  where
    by : (b : Bool) → at_most bound (divided_pairs d (if b then [] else (v, c) ∷ [])) ≡ true
    by true = refl
    by false = let e = most_test (unsigned_abs (int_div c d)) bound h in rw e refl

pub within_step : (bound : ℕ) (d : ℤ) (out old : List (ℕ × ℤ)) (v : ℕ) (c : ℤ)
    → out ≡ old ++ divided_pairs d (with_pair v c []) → unsigned_abs (int_div c d) ≤ bound → at_most bound old ≡ true → at_most bound out ≡ true
within_step bound d out old v c e h w =
    let a = at_most_append bound old (divided_pairs d (with_pair v c [])) in
    let b = one_within bound d v c h in
    ap (at_most bound) e ∙ (a ∙ rw (w, b) refl)

zero_quotient : (d : ℕ) → unsigned_abs (int_div (pos 0) (pos d)) ≡ 0
zero_quotient zero = refl
zero_quotient (suc d) = omega arith

pub past_step : (bound d : ℕ) (old here rest all : List (ℕ × ℤ)) (v : ℕ) (c : ℤ)
    → bound < unsigned_abs (int_div c (pos d)) → here ≡ with_pair v c rest → old ++ divided_pairs (pos d) here ≡ all → at_most bound all ≡ false
past_step bound d old here rest all v c h f g = by (is_zero c) refl f
  where
    by : (b : Bool) → is_zero c ≡ b → here ≡ (if b then rest else (v, c) ∷ rest) → at_most bound all ≡ false
    by true e k = let z = ap (λ x. unsigned_abs (int_div x (pos d))) (zero_is c e) ∙ zero_quotient d in absurd (omega arith)
    by false e k =
        let p = past_test (unsigned_abs (int_div c (pos d))) bound h in
        let m : at_most bound (divided_pairs (pos d) here) ≡ false = rw (k, p) refl in
        ap (at_most bound) (sym g) ∙ (at_most_append bound old (divided_pairs (pos d) here) ∙ rw m (and_false (at_most bound old)))

-- ---- the numbers of a list in range
pub small_test : (n b : ℕ) → nat_le n b ≡ true → n ≤ b
small_test n b h = grind (arith, nat_tests)

most_each : (bound : ℕ) (ps : List (ℕ × ℤ)) → at_most bound ps ≡ true → bound ≤ limit → AllByRecursion (λ p. unsigned_abs p.1 ≤ limit) ps
most_each bound [] e h = tt
most_each bound (p ∷ ps) e h =
    let b = both (nat_le (unsigned_abs p.1) bound) (at_most bound ps) e in
    let k = small_test (unsigned_abs p.1) bound b.0 in
    (omega arith, most_each bound ps b.1 h)

pub most_all : (bound : ℕ) (ps : List (ℕ × ℤ)) → at_most bound ps ≡ true → bound ≤ limit → All (λ p. unsigned_abs p.1 ≤ limit) ps
most_all bound ps e h = All-from_recursion (λ p. unsigned_abs p.1 ≤ limit) ps (most_each bound ps e h)

pub most_is_within : (ps : List (ℕ × ℤ)) → at_most limit ps ≡ pairs_within ps
most_is_within [] = refl
most_is_within (p ∷ ps) = ap (λ b. nat_le (unsigned_abs p.1) limit && b) (most_is_within ps)

-- ---- turns of the loops
pub divisor_turn : (d n r : ℕ) (v : ℕ) (c : ℤ) (here rest : List (ℕ × ℤ)) (all : ℕ) → r ≡ gcd n d → n ≡ unsigned_abs c → here ≡ with_pair v c rest → joint_gcd d here ≡ all → joint_gcd r rest ≡ all
divisor_turn d n r v c here rest all e f g h =
    ap (λ m. joint_gcd m rest) (e ∙ ap (λ m. gcd m d) f) ∙ (sym (divisor_step d v c rest) ∙ (ap (joint_gcd d) (sym g) ∙ h))

pub divisor_end : (d : ℕ) (here : List (ℕ × ℤ)) (all : ℕ) → d ≡ 1 → joint_gcd d here ≡ all → 1 ≡ all
divisor_end d here all e h = sym (divisor_one here) ∙ (ap (λ m. joint_gcd m here) (sym e) ∙ h)

-- ---- the numbers of a row in range
pub row_pairs_small : (ps : List (ℕ × ℤ)) (c : ℤ) → (pairs_within ps && nat_le (unsigned_abs c) limit) ≡ true → All (λ p. unsigned_abs p.1 ≤ limit) ps
row_pairs_small ps c e = most_all limit ps (most_is_within ps ∙ (both (pairs_within ps) (nat_le (unsigned_abs c) limit) e).0) (omega arith)

pub row_constant_small : (ps : List (ℕ × ℤ)) (c : ℤ) → (pairs_within ps && nat_le (unsigned_abs c) limit) ≡ true → unsigned_abs c ≤ limit
row_constant_small ps c e = small_test (unsigned_abs c) limit (both (pairs_within ps) (nat_le (unsigned_abs c) limit) e).1
