-- The least common multiple of denominators.
use Rattle.std.proofs.Common.{◌≡◌, ℕ, zero, suc, ◌*◌, ◌<◌, ◌≤◌, ◌/◌, List, [], ◌∷◌, arith, sym, ◌∙◌, ap, subst}
use Rattle.std.specs.Int.{◌∣◌}
use Rattle.std.proofs.Math.IntN.{pos, ◌*ℤ◌, pos-*ℤ-pos}
use Rattle.std.proofs.Math.Nat.{mul_assoc, mul_comm, dvd-mul_left, dvd-mul_right, mul-dvd-mul_right}
use Rattle.std.proofs.lemmas.Nat.Gcd.{dvd_trans, le_of_dvd, dvd_of_mod-eq-zero, IsGcd-swap, same_from_IsGcd}
use Rattle.clp_rationals.specs.Fraction.{Fraction}
use Rattle.clp_rationals.proofs.Lowest.{cancel_ℤ}
use Rattle.linear_model.specs.Gcd.{gcd}
use Rattle.frac_model.specs.Reduced.{reduced}
use Rattle.frac_laws.proofs.Gcd.{gcd_is, divided_back}
use Rattle.frac_laws.proofs.Reducing.{lowest, whole_multiple}
use Rattle.frac_laws.proofs.Exact.{positive_product, swap_last}
use Rattle.form_model.specs.Forms.{lcm, joint_den}
use Rattle.form_model.specs.Forms.{AreLowest}

pub gcd_comm : (a b : ℕ) → gcd a b ≡ gcd b a
gcd_comm a b = same_from_IsGcd a b (gcd a b) (gcd b a) (gcd_is a b) (IsGcd-swap b a (gcd b a) (gcd_is b a))

-- what divides a product divides the second factor, once it is divided by what it shares with the first
pub quotient_divides : (a b k : ℕ) → 0 < a → a ∣ b * k → a / gcd b a ∣ k
unfolding reduced
quotient_divides a b k h d =
    let f = reduced (pos b) a in
    let low = lowest (pos b) a h in
    let j = b * k / a in
    let e : j * a ≡ b * k = divided_back a (b * k) d in
    let over : f.num *ℤ pos k ≡ pos j *ℤ pos f.den =
    cancel_ℤ (f.num *ℤ pos k) (pos j *ℤ pos f.den) a h
    (swap_last f.num (pos k) (pos a) ∙ (ap (λ z. z *ℤ pos k) low.1 ∙ (swap_last (pos b) (pos f.den) (pos k)
    ∙ (ap (λ z. z *ℤ pos f.den) (pos-*ℤ-pos b k ∙ (ap pos (sym e) ∙ sym (pos-*ℤ-pos j a))) ∙ swap_last (pos j) (pos a) (pos f.den))))) in
    dvd_of_mod-eq-zero f.den (whole_multiple (pos j) k f low.0 over)

pub lcm_first : (a b : ℕ) → a ∣ lcm a b
lcm_first a b =
    let g = gcd a b in
    let i = gcd_is a b in
    let ea = divided_back g a i.0 in
    let eb = divided_back g b i.1 in
    let e : a * (b / g) ≡ a / g * b =
    ap (λ n. n * (b / g)) (sym ea) ∙ (mul_assoc (a / g) g (b / g) ∙ ap (λ n. a / g * n) (mul_comm g (b / g) ∙ eb)) in
    subst (λ n. a ∣ n) e (dvd-mul_right a (b / g))

pub lcm_second : (a b : ℕ) → b ∣ lcm a b
lcm_second a b = dvd-mul_left b (a / gcd a b)

pub lcm_least : (a b m : ℕ) → 0 < a → a ∣ m → b ∣ m → lcm a b ∣ m
lcm_least a b m h d e =
    let k = m / b in
    let i : k * b ≡ m = divided_back b m e in
    let j : a ∣ b * k = subst (λ n. a ∣ n) (sym i ∙ mul_comm k b) d in
    let q = subst (λ g. a / g ∣ k) (gcd_comm b a) (quotient_divides a b k h j) in
    subst (λ n. a / gcd a b * b ∣ n) i (mul-dvd-mul_right (a / gcd a b) q b)

quotient_positive : (q g m : ℕ) → 0 < m → q * g ≡ m → 0 < q
quotient_positive zero g m h e = absurd (let z : 0 * g ≡ 0 = omega arith in omega arith)
quotient_positive (suc q) g m h e = omega arith

pub lcm_positive : (a b : ℕ) → 0 < a → 0 < b → 0 < lcm a b
lcm_positive a b h k =
    positive_product (a / gcd a b) b (quotient_positive (a / gcd a b) (gcd a b) a h (divided_back (gcd a b) a (gcd_is a b).0)) k

-- ---- of all denominators
abbrev Terms : Type 0
Terms = List (ℕ × Fraction)

abbrev pub DensDivide : ℕ → Terms → Type 0
DensDivide m [] = Unit {0}
DensDivide m (p ∷ ps) = (p.1.den ∣ m) × DensDivide m ps

pub joint_positive : (n : ℕ) (ps : Terms) → 0 < n → AreLowest ps → 0 < joint_den n ps
joint_positive n [] h a = h
joint_positive n (p ∷ ps) h a = joint_positive (lcm n p.1.den) ps (lcm_positive n p.1.den h a.0.positive) a.1

pub joint_first : (n : ℕ) (ps : Terms) → n ∣ joint_den n ps
joint_first n [] = subst (λ m. n ∣ m) (let e : n * 1 ≡ n = omega arith in e) (dvd-mul_right n 1)
joint_first n (p ∷ ps) = dvd_trans n (lcm_first n p.1.den) (joint_first (lcm n p.1.den) ps)

pub joint_all : (n : ℕ) (ps : Terms) → DensDivide (joint_den n ps) ps
joint_all n [] = tt
joint_all n (p ∷ ps) = (dvd_trans p.1.den (lcm_second n p.1.den) (joint_first (lcm n p.1.den) ps), joint_all (lcm n p.1.den) ps)

pub joint_least : (n m : ℕ) (ps : Terms) → 0 < n → AreLowest ps → n ∣ m → DensDivide m ps → joint_den n ps ∣ m
joint_least n m [] h a d e = d
joint_least n m (p ∷ ps) h a d e =
    joint_least (lcm n p.1.den) m ps (lcm_positive n p.1.den h a.0.positive) a.1 (lcm_least n p.1.den m h d e.0) e.1

pub joint_grows : (n : ℕ) (ps : Terms) → 0 < n → AreLowest ps → n ≤ joint_den n ps
joint_grows n ps h a = le_of_dvd (joint_positive n ps h a) (joint_first n ps)
