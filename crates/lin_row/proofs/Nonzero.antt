-- Pairs whose coefficient is 0 change neither the joint divisor nor the first sign.
use Rattle.std.proofs.Common.{◌≡◌, ℕ, zero, suc, ◌<◌, ◌≤◌, ◌%◌, length, List, [], ◌∷◌, ◌++◌, Bool, true, false, append_assoc, arith, refl, sym, ◌∙◌, ap}
use Rattle.std.specs.Prelude.{unsigned_abs, int_lt, if◌then◌else◌}
use Rattle.std.proofs.Math.IntN.{ℤ, pos, negsuc}
use Rattle.std.proofs.lemmas.Bool.Decides.{nat_tests}
use Rattle.std.proofs.lemmas.List.{length-append}
use Rattle.linear_model.specs.Gcd.{gcd}
use Rattle.linear_model.specs.Forms.{is_zero, with_pair}
use Rattle.linear_model.specs.Normal.{joint_gcd, divided_pairs, pairs_within, first_is_negative}
use Rattle.lin_row.proofs.Divisors.{gcd_step, gcd_zero}
use Rattle.lin_row.proofs.Quotients.{within_append, and_false}

pub zero_is : (z : ℤ) → is_zero z ≡ true → z ≡ pos 0
zero_is (pos zero) e = refl
zero_is (pos (suc n)) e = absurd (let k : suc n ≡ 0 = grind (arith, nat_tests) in omega arith)
zero_is (negsuc n) e = cc

gcd_of_zero : (n : ℕ) → gcd 0 n ≡ n
gcd_of_zero n = gcd_step 0 n ∙ (ap (gcd n) (by n) ∙ gcd_zero n)
  where
    by : (n : ℕ) → 0 % n ≡ 0
    by zero = omega arith
    by (suc n) = omega arith

joint_with : (n v : ℕ) (c : ℤ) (ps : List (ℕ × ℤ)) → joint_gcd n (with_pair v c ps) ≡ joint_gcd (gcd (unsigned_abs c) n) ps
joint_with n v c ps = by (is_zero c) refl
  where
    by : (b : Bool) → is_zero c ≡ b → joint_gcd n (if b then ps else (v, c) ∷ ps) ≡ joint_gcd (gcd (unsigned_abs c) n) ps
    by true e =
        let z = ap unsigned_abs (zero_is c e) in
        let g : gcd (unsigned_abs c) n ≡ n = ap (λ m. gcd m n) z ∙ gcd_of_zero n in
        ap (λ m. joint_gcd m ps) (sym g)
    by false e = refl

-- ---- the turns of the loops, where `here` is what was left and `rest` what is
pub joint_more : (n m all v : ℕ) (c : ℤ) (here rest : List (ℕ × ℤ)) → here ≡ with_pair v c rest → m ≡ gcd (unsigned_abs c) n → joint_gcd n here ≡ all → joint_gcd m rest ≡ all
joint_more n m all v c here rest e g h =
    ap (λ k. joint_gcd k rest) g ∙ (sym (joint_with n v c rest) ∙ (ap (joint_gcd n) (sym e) ∙ h))

pub first_more : (v : ℕ) (c : ℤ) (here rest : List (ℕ × ℤ)) (all : Bool) → here ≡ with_pair v c rest → is_zero c ≡ true → first_is_negative here ≡ all → first_is_negative rest ≡ all
first_more v c here rest all e z h = sym (ap (λ b. first_is_negative (if b then rest else (v, c) ∷ rest)) z) ∙ (ap first_is_negative (sym e) ∙ h)

pub first_found : (v : ℕ) (c : ℤ) (here rest : List (ℕ × ℤ)) (all b : Bool) → here ≡ with_pair v c rest → is_zero c ≡ false → b ≡ int_lt c (pos 0) → first_is_negative here ≡ all → b ≡ all
first_found v c here rest all b e z g h = g ∙ (sym (ap (λ t. first_is_negative (if t then rest else (v, c) ∷ rest)) z) ∙ (ap first_is_negative (sym e) ∙ h))

with_after : (d : ℤ) (v : ℕ) (c : ℤ) (rest : List (ℕ × ℤ)) → divided_pairs d (with_pair v c []) ++ divided_pairs d rest ≡ divided_pairs d (with_pair v c rest)
with_after d v c rest = by (is_zero c)
  where
    by : (b : Bool) → divided_pairs d (if b then [] else (v, c) ∷ []) ++ divided_pairs d rest ≡ divided_pairs d (if b then rest else (v, c) ∷ rest)
    by true = refl
    by false = refl

module _ (d : ℤ) (v : ℕ) (c : ℤ) (left rest out old all : List (ℕ × ℤ)) (is : left ≡ with_pair v c rest) where
  abbrev here : List (ℕ × ℤ)
  here = divided_pairs d (with_pair v c [])

  front : divided_pairs d left ≡ here ++ divided_pairs d rest
  front = ap (divided_pairs d) is ∙ sym (with_after d v c rest)

  pub one_more : out ≡ old ++ here → old ++ divided_pairs d left ≡ all → out ++ divided_pairs d rest ≡ all
  one_more k g = ap (λ xs. xs ++ divided_pairs d rest) k ∙ (append_assoc old here (divided_pairs d rest) ∙ (ap (λ xs. old ++ xs) (sym front) ∙ g))

  pub within_more : out ≡ old ++ here → pairs_within here ≡ true → pairs_within old ≡ true → pairs_within out ≡ true
  within_more k h w = ap pairs_within k ∙ (within_append old here ∙ rw (w, h) refl)

  pub past : pairs_within here ≡ false → old ++ divided_pairs d left ≡ all → pairs_within all ≡ false
  past k g =
      let a : pairs_within (divided_pairs d left) ≡ false = ap pairs_within front ∙ (within_append here (divided_pairs d rest) ∙ rw k refl) in
      ap pairs_within (sym g) ∙ (within_append old (divided_pairs d left) ∙ rw a (and_false (pairs_within old)))

length_divided : (d : ℤ) (ps : List (ℕ × ℤ)) → length (divided_pairs d ps) ≡ length ps
length_divided d [] = refl
length_divided d (p ∷ ps) = ap suc (length_divided d ps)

-- where one more does not fit
pub too_long : (d : ℤ) (v : ℕ) (c : ℤ) (left rest old whole : List (ℕ × ℤ)) (capacity : ℕ) → left ≡ with_pair v c rest → is_zero c ≡ false
    → old ++ divided_pairs d left ≡ divided_pairs d whole → 4 ≤ capacity → capacity ≤ length old → 4 < length whole
too_long d v c left rest old whole capacity e z g h k =
    let a : left ≡ (v, c) ∷ rest = e ∙ ap (λ b. if b then rest else (v, c) ∷ rest) z in
    let b : length left ≡ suc (length rest) = ap length a in
    let m = ap length g in
    let n = length-append old (divided_pairs d left) in
    let o = length_divided d left in
    let q = length_divided d whole in
    omega arith
