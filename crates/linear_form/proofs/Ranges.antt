-- Where the normal form of a form's row is in range, so are the common denominator and what each part is multiplied by.
use Rattle.std.proofs.Common.{◌≡◌, ℕ, zero, suc, ◌*◌, ◌<◌, ◌≤◌, ◌/◌, max, ◌⊎◌, inl, inr, List, [], ◌∷◌, Bool, true, false, ◌&&◌, nat_eq, arith, refl, sym, ◌∙◌, ap, subst}
use Rattle.std.specs.Prelude.{unsigned_abs, int_div, nat_le, Ok, Err, if◌then◌else◌}
use Rattle.std.specs.Int.{◌∣◌}
use Rattle.std.specs.List.{AllByRecursion, IsDistinct}
use Rattle.std.specs.Map.{keys_of}
use Rattle.std.proofs.Math.IntN.{ℤ, pos, ◌+ℤ◌, ◌*ℤ◌, zero-*ℤ}
use Rattle.std.proofs.Math.Nat.{mul_comm}
use Rattle.std.proofs.lemmas.Int.{ints, unsigned_abs-mul}
use Rattle.std.proofs.lemmas.Nat.{mul-le}
use Rattle.std.proofs.lemmas.Nat.Gcd.{dvd_trans, dvd_refl, dvd-zero, le_of_dvd}
use Rattle.std.proofs.lemmas.Bool.Decides.{nat_tests}
use Rattle.clp_rationals.specs.Fraction.{Fraction, IsLowest}
use Rattle.clp_model.specs.Clauses.{Row}
use Rattle.clp_model.specs.declared.sort.Rel.{Rel}
use Rattle.linear_model.specs.Gcd.{gcd}
use Rattle.linear_model.specs.Forms.{is_zero, coefficient, IsRising}
use Rattle.linear_model.specs.Normal.{row_gcd, divided_pairs, divisor_of, is_flipped, pairs_within, normal, is_within, limit}
use Rattle.lin_row.proofs.Division.{exact, exact_neg, max_divides}
use Rattle.lin_row.proofs.Normalized.{All∣, joint_divides}
use Rattle.lin_row.proofs.Nonzero.{zero_is}
use Rattle.lin_row.proofs.Coefficients.{coefficient_above}
use Rattle.frac_laws.proofs.Gcd.{divided_back}
use Rattle.frac_model.specs.Results.{is_small}
use Rattle.form_model.specs.Forms.{Form, common_den, are_small, cleared, cleared_terms, cleared_row, row_of}
use Rattle.form_model.specs.declared.fault.FormFault.TheVariants.{TooLarge}
use Rattle.form_model.specs.Forms.{AreLowest}
use Rattle.linear_form.specs.Kept.{IsKept}
use Rattle.linear_form.specs.Ranges.{Bounded, AreBounded}
use Rattle.form_laws.proofs.Multiples.{DensDivide, joint_positive, joint_first, joint_all, joint_least}
use Rattle.linear_form.proofs.Shared.{part_shares, shares_nothing, part_bound}
use Rattle.linear_form.proofs.InOrder.{in_order_rising, coefficient_in_order}

abbrev Terms : Type 0
Terms = List (ℕ × Fraction)

-- ---- a number of the row whose quotient by the divisor m is within the limit
abbrev Fits : ℕ → ℤ → Type 0
Fits m z = (m ∣ unsigned_abs z) × (unsigned_abs z ≤ limit * m)

abs_divisor : (b : Bool) (m : ℕ) → 0 < m → unsigned_abs (divisor_of b m) ≡ m
abs_divisor true zero h = absurd (omega arith)
abs_divisor true (suc m) h = refl
abs_divisor false m h = refl

back : (b : Bool) (m : ℕ) → 0 < m → (z : ℤ) → m ∣ unsigned_abs z → divisor_of b m *ℤ int_div z (divisor_of b m) ≡ z
back true m h z d = exact_neg z m h d
back false m h z d = exact z m h d

fits : (b : Bool) (m : ℕ) → 0 < m → (z : ℤ) → m ∣ unsigned_abs z → unsigned_abs (int_div z (divisor_of b m)) ≤ limit → Fits m z
fits b m h z d w =
    let q = unsigned_abs (int_div z (divisor_of b m)) in
    let e : unsigned_abs z ≡ q * m =
    sym (ap unsigned_abs (back b m h z d)) ∙ (unsigned_abs-mul (divisor_of b m) (int_div z (divisor_of b m)) ∙ (ap (λ n. n * q) (abs_divisor b m h) ∙ mul_comm m q)) in
    (d, subst (λ n. n ≤ limit * m) (sym e) (mul-le q m limit m w (omega arith)))

both : (a b : Bool) → (a && b) ≡ true → (a ≡ true) × (b ≡ true)
both true true e = (refl, refl)
both true false e = cc
both false b e = cc

small_test : (n : ℕ) → nat_le n limit ≡ true → n ≤ limit
small_test n h = grind (arith, nat_tests)

abbrev All : (ℤ → Type 0) → List (ℕ × ℤ) → Type 0
All P [] = Unit {0}
All P (p ∷ ps) = P p.1 × All P ps

all_fit : (b : Bool) (m : ℕ) → 0 < m → (ps : List (ℕ × ℤ)) → All (λ z. m ∣ unsigned_abs z) ps → pairs_within (divided_pairs (divisor_of b m) ps) ≡ true → All (Fits m) ps
all_fit b m h [] d w = tt
all_fit b m h (p ∷ ps) d w =
    let k = both (nat_le (unsigned_abs (int_div p.1 (divisor_of b m))) limit) (pairs_within (divided_pairs (divisor_of b m) ps)) w in
    (fits b m h p.1 d.0 (small_test (unsigned_abs (int_div p.1 (divisor_of b m))) k.0), all_fit b m h ps d.1 k.1)

all_divided : (m g : ℕ) → m ∣ g → (ps : List (ℕ × ℤ)) → All∣ g ps → All (λ z. m ∣ unsigned_abs z) ps
all_divided m g h [] a = tt
all_divided m g h (p ∷ ps) a = (dvd_trans m h a.0, all_divided m g h ps a.1)

-- ---- what is true of 0 and of all numbers of a rising list is true of each coefficient
coefficient_is : (P : ℤ → Type 0) → P (pos 0) → (ps : List (ℕ × ℤ)) → IsRising ps → All P ps → (v : ℕ) → P (coefficient ps v)
coefficient_is P z [] r a v = z
coefficient_is P z (p ∷ ps) r a v = by (nat_eq p.0 v) refl (coefficient_is P z ps r.2 a.1 v)
  where
    by : (b : Bool) → nat_eq p.0 v ≡ b → P (coefficient ps v) → P ((if b then p.1 else pos 0) +ℤ coefficient ps v)
    by true e ih =
        let c = coefficient_above p.0 v ps (let s : p.0 ≡ v = grind (arith, nat_tests) in omega arith) r.1 in
        subst P (let f : p.1 ≡ p.1 +ℤ coefficient ps v = omega (arith, ints) in f) a.0
    by false e ih = subst P (let f : coefficient ps v ≡ pos 0 +ℤ coefficient ps v = omega (arith, ints) in f) ih

-- ---- each term's number is the coefficient of its variable
abbrev Agree : (ℕ → ℤ) → ℕ → Terms → Type 0
Agree f d [] = Unit {0}
Agree f d (p ∷ ps) = (f p.0 ≡ cleared d p.1) × Agree f d ps

none_of : (d v : ℕ) (ps : Terms) → AllByRecursion (λ w. nat_eq v w ≡ false) (keys_of ps) → coefficient (cleared_terms d ps) v ≡ pos 0
none_of d v [] a = refl
none_of d v (p ∷ ps) a =
    let e : nat_eq p.0 v ≡ false = (let n = a.0 in grind (arith, nat_tests)) in
    let h = none_of d v ps a.1 in
    ap (λ b. (if b then cleared d p.1 else pos 0) +ℤ coefficient (cleared_terms d ps) v) e ∙ omega (arith, ints)

agree_after : (f : ℕ → ℤ) (d v : ℕ) (c : ℤ) (ps : Terms) → AllByRecursion (λ w. nat_eq v w ≡ false) (keys_of ps) → Agree f d ps → Agree (λ w. (if nat_eq v w then c else pos 0) +ℤ f w) d ps
agree_after f d v c [] a g = tt
agree_after f d v c (p ∷ ps) a g =
    (ap (λ b. (if b then c else pos 0) +ℤ f p.0) a.0 ∙ (let e = g.0 in omega (arith, ints)), agree_after f d v c ps a.1 g.1)

agree : (d : ℕ) (ps : Terms) → IsDistinct nat_eq (keys_of ps) → Agree (coefficient (cleared_terms d ps)) d ps
unfolding IsDistinct
agree d [] a = tt
agree d (p ∷ ps) a =
    let t : nat_eq p.0 p.0 ≡ true = same_test p.0 in
    let n = none_of d p.0 ps a.0 in (
      ap (λ b. (if b then cleared d p.1 else pos 0) +ℤ coefficient (cleared_terms d ps) p.0) t ∙ omega (arith, ints),
      agree_after (coefficient (cleared_terms d ps)) d p.0 (cleared d p.1) ps a.0 (agree d ps a.1),
    )
  where
    same_test : (n : ℕ) → nat_eq n n ≡ true
    same_test n = grind (arith, nat_tests)

abbrev Parts : (Fraction → Type 0) → Terms → Type 0
Parts P [] = Unit {0}
Parts P (p ∷ ps) = P p.1 × Parts P ps

parts_fit : (f : ℕ → ℤ) (d m : ℕ) → ((v : ℕ) → Fits m (f v)) → (ps : Terms) → Agree f d ps → Parts (λ c. Fits m (cleared d c)) ps
parts_fit f d m h [] a = tt
parts_fit f d m h (p ∷ ps) a = (subst (Fits m) a.0 (h p.0), parts_fit f d m h ps a.1)

-- ---- the bounds
pub record InRange (f : Form) : Type 0 where
  pub common : common_den f ≤ limit * limit
  pub constant : Bounded (common_den f) f.constant
  pub terms : AreBounded (common_den f) f.terms

num_test : (n : ℕ) (b : Bool) → (nat_le n limit && b) ≡ true → n ≤ limit
num_test n b h = small_test n (both (nat_le n limit) b h).0

den_test : (n : ℕ) (b : Bool) → (b && nat_le n limit) ≡ true → n ≤ limit
den_test n b h = small_test n (both b (nat_le n limit) h).1

small_num : (c : Fraction) → is_small c ≡ true → unsigned_abs c.num ≤ limit
small_num c s = num_test (unsigned_abs c.num) (nat_le c.den limit) s

small_den : (c : Fraction) → is_small c ≡ true → c.den ≤ limit
small_den c s = den_test c.den (nat_le (unsigned_abs c.num) limit) s

-- l is no more than the bound, or the denominator is 1
part_decides : (l : ℕ) (c : Fraction) → IsLowest c → is_small c ≡ true → c.den ∣ l → Bounded l c → (l ≤ limit * limit) ⊎ (c.den ∣ 1)
part_decides l c low s d bound = by (is_zero c.num) refl
  where
    by : (b : Bool) → is_zero c.num ≡ b → (l ≤ limit * limit) ⊎ (c.den ∣ 1)
    by true e =
        let z = zero_is c.num e in
        let le = low.least (pos 0) 1 (omega arith) (zero-*ℤ (pos c.den) ∙ sym (ap (λ y. y *ℤ pos 1) z)) in
        let up = low.positive in
        let one : 1 ≡ c.den = omega arith in
        inr (subst (λ n. n ∣ 1) one (dvd_refl 1))
    by false e =
        let a = mul-le (l / c.den) c.den limit limit (bound e) (small_den c s) in
        let k = divided_back c.den l d in
        inl (subst (λ n. n ≤ limit * limit) k a)

parts_decide : (l : ℕ) (ps : Terms) → AreLowest ps → are_small ps ≡ true → DensDivide l ps → AreBounded l ps → (l ≤ limit * limit) ⊎ DensDivide 1 ps
parts_decide l [] a s d b = inr tt
parts_decide l (p ∷ ps) a s d b =
    let k = both (is_small p.1) (are_small ps) s in
    by (part_decides l p.1 a.0 k.0 d.0 b.0) (parts_decide l ps a.1 k.1 d.1 b.1)
  where
    by : (l ≤ limit * limit) ⊎ (p.1.den ∣ 1) → (l ≤ limit * limit) ⊎ DensDivide 1 ps → (l ≤ limit * limit) ⊎ DensDivide 1 (p ∷ ps)
    by (inl x) y = inl x
    by (inr x) (inl y) = inl y
    by (inr x) (inr y) = inr (x, y)

module _ (l m : ℕ) (hl : 0 < l) (hm : 0 < m) where
  dens_share : (ps : Terms) → AreLowest ps → DensDivide l ps → Parts (λ c. Fits m (cleared l c)) ps → DensDivide (l / gcd m l) ps
  dens_share [] a d f = tt
  dens_share (p ∷ ps) a d f = (part_shares l m hl hm p.1 a.0 d.0 f.0.0, dens_share ps a.1 d.1 f.1)

  bounded : (c : Fraction) → gcd m l ≡ 1 → is_small c ≡ true → c.den ∣ l → Fits m (cleared l c) → Bounded l c
  bounded c one s d f e = part_bound l m hl hm one c d f.0 e limit f.1

  all_bounded : gcd m l ≡ 1 → (ps : Terms) → are_small ps ≡ true → DensDivide l ps → Parts (λ c. Fits m (cleared l c)) ps → AreBounded l ps
  all_bounded one [] s d f = tt
  all_bounded one (p ∷ ps) s d f =
      let k = both (is_small p.1) (are_small ps) s in
      (bounded p.1 one k.0 d.0 f.0, all_bounded one ps k.1 d.1 f.1)

zero_fits : (m : ℕ) → Fits m (pos 0)
zero_fits m = (dvd-zero m, omega arith)

module _ (rel : Rel) (f : Form) (kept : IsKept f) (distinct : IsDistinct nat_eq (keys_of f.terms)) (within : is_within (normal (cleared_row rel f)) ≡ true) where
  abbrev r : Row
  r = cleared_row rel f

  abbrev l : ℕ
  l = common_den f

  abbrev m : ℕ
  m = max 1 (row_gcd r)

  abbrev flip : Bool
  flip = is_flipped rel r.pairs

  hm : 0 < m
  hm = omega arith

  hl : 0 < l
  hl = joint_positive f.constant.den f.terms kept.constant.positive kept.terms

  quotients : (pairs_within (divided_pairs (divisor_of flip m) r.pairs) ≡ true) × (nat_le (unsigned_abs (int_div r.constant (divisor_of flip m))) limit ≡ true)
  quotients = both (pairs_within (divided_pairs (divisor_of flip m) r.pairs)) (nat_le (unsigned_abs (int_div r.constant (divisor_of flip m))) limit) within

  divides : (row_gcd r ∣ unsigned_abs r.constant) × All∣ (row_gcd r) r.pairs
  divides = joint_divides (unsigned_abs r.constant) r.pairs

  constant_fits : Fits m (cleared l f.constant)
  constant_fits =
      fits flip m hm r.constant (dvd_trans m (max_divides (row_gcd r)) divides.0) (small_test (unsigned_abs (int_div r.constant (divisor_of flip m))) quotients.1)

  pairs_fit : All (Fits m) r.pairs
  pairs_fit = all_fit flip m hm r.pairs (all_divided m (row_gcd r) (max_divides (row_gcd r)) r.pairs divides.1) quotients.0

  coefficient_fits : (v : ℕ) → Fits m (coefficient (cleared_terms l f.terms) v)
  coefficient_fits v =
      subst (Fits m) (coefficient_in_order v (cleared_terms l f.terms))
      (coefficient_is (Fits m) (zero_fits m) r.pairs (in_order_rising (cleared_terms l f.terms)) pairs_fit v)

  terms_fit : Parts (λ c. Fits m (cleared l c)) f.terms
  terms_fit = parts_fit (coefficient (cleared_terms l f.terms)) l m coefficient_fits f.terms (agree l f.terms distinct)

  first : f.constant.den ∣ l
  first = joint_first f.constant.den f.terms

  rest : DensDivide l f.terms
  rest = joint_all f.constant.den f.terms

  one : gcd m l ≡ 1
  one =
      shares_nothing l m hl hm
      (joint_least f.constant.den (l / gcd m l) f.terms kept.constant.positive kept.terms
      (part_shares l m hl hm f.constant kept.constant first constant_fits.0)
      (dens_share l m hl hm f.terms kept.terms rest terms_fit))

  small : (is_small f.constant ≡ true) × (are_small f.terms ≡ true)
  small = both (is_small f.constant) (are_small f.terms) kept.small

  constant_bounded : Bounded l f.constant
  constant_bounded = bounded l m hl hm f.constant one small.0 first constant_fits

  terms_bounded : AreBounded l f.terms
  terms_bounded = all_bounded l m hl hm one f.terms small.1 rest terms_fit

  common_bounded : l ≤ limit * limit
  common_bounded =
      by (part_decides l f.constant kept.constant small.0 first constant_bounded) (parts_decide l f.terms kept.terms small.1 rest terms_bounded)
    where
      by : (l ≤ limit * limit) ⊎ (f.constant.den ∣ 1) → (l ≤ limit * limit) ⊎ DensDivide 1 f.terms → l ≤ limit * limit
      by (inl x) y = x
      by (inr x) (inl y) = y
      by (inr x) (inr y) =
          let d = joint_least f.constant.den 1 f.terms kept.constant.positive kept.terms x y in
          let le : l ≤ 1 = le_of_dvd (omega arith) d in omega arith

  pub in_range : InRange f
  in_range = record { common = common_bounded; constant = constant_bounded; terms = terms_bounded }

-- ---- what the code finds out of range
module _ (rel : Rel) (f : Form) (kept : IsKept f) (distinct : IsDistinct nat_eq (keys_of f.terms)) where
  refused : (InRange f → ⊥) → row_of rel f ≡ Err TooLarge
  refused contrary = by (is_within (normal (cleared_row rel f))) refl
    where
      by : (b : Bool) → is_within (normal (cleared_row rel f)) ≡ b → (if b then Ok (normal (cleared_row rel f)) else Err TooLarge) ≡ Err TooLarge
      by true e = absurd (contrary (in_range rel f kept distinct e))
      by false e = refl

  pub common_refused : limit * limit < common_den f → row_of rel f ≡ Err TooLarge
  common_refused h = refused (λ i. let k = i.common in omega arith)

  pub constant_refused : is_zero f.constant.num ≡ false → limit < common_den f / f.constant.den → row_of rel f ≡ Err TooLarge
  constant_refused e h = refused (λ i. let k = i.constant e in omega arith)

  pub terms_refused : (AreBounded (common_den f) f.terms → ⊥) → row_of rel f ≡ Err TooLarge
  terms_refused contrary = refused (λ i. contrary i.terms)
