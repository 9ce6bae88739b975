-- Rows whose variables are renamed, once and twice, and their normal forms.
use Rattle.std.proofs.Common.{◌≡◌, ℕ, zero, suc, ◌*◌, ◌<◌, max, List, [], ◌∷◌, Bool, true, false, arith, refl, sym, ◌∙◌, ap, subst, eq-eqb, ◌⊎◌, inl, inr, map}
use Rattle.std.specs.Prelude.{nat_eq, unsigned_abs, int_div, if◌then◌else◌}
use Rattle.std.proofs.Math.IntN.{ℤ, pos, negsuc, ◌+ℤ◌, ◌*ℤ◌}
use Rattle.std.specs.Int.{◌∣◌}
use Rattle.std.proofs.lemmas.Int.{ints, unsigned_abs-mul}
use Rattle.std.proofs.lemmas.Bool.{eqb-true}
use Rattle.clp_rationals.proofs.Whole.{mul_add_ℤ, mul_assoc_ℤ}
use Rattle.clp_model.specs.Clauses.{Row, sum_of}
use Rattle.clp_model.specs.declared.sort.Rel.{Rel}
use Rattle.clp_model.specs.declared.sort.Rel.TheVariants.{Eq, Le, Lt}
use Rattle.clp_model.proofs.Membership.{Among, first}
use Rattle.linear_model.specs.Gcd.{gcd}
use Rattle.linear_model.specs.Forms.{Above, IsRising, is_zero, coefficient}
use Rattle.linear_model.specs.Changes.{renamed, renamed_pairs}
use Rattle.linear_model.specs.Normal.{joint_gcd, row_gcd, divided_pairs, divisor_of, is_flipped, normal}
use Rattle.linear_laws.proofs.Ring.{mul_zero}
use Rattle.linear_laws.proofs.Sums.{zero_is}
use Rattle.linear_laws.proofs.Normal.{max_divides}
use Rattle.linear_laws.proofs.Normalized.{exact_divisor}
use Rattle.linear_laws.proofs.Divided.{divides_on, divides_first, rising_normal}
use Rattle.linear_laws.proofs.Rising.{first_coefficient, first_is_least}
use Rattle.linear_laws.proofs.Renamed.{rising_renamed}
use Rattle.clause_model.specs.Variables.{row_variables}
use Rattle.clause_laws.proofs.Rows.{sum_renamed, sum_agrees}
use Rattle.clause_laws.proofs.Scaling.{times, times_row, negative, MayTurn, normal_times, not_zero}

-- ---- rising lists with the same coefficients are equal
least_differs : (p : ℕ × ℤ) (ps qs : List (ℕ × ℤ)) → IsRising (p ∷ ps) → coefficient (p ∷ ps) p.0 ≡ coefficient qs p.0 → ¬ (coefficient qs p.0 ≡ pos 0)
least_differs p ps qs r e k = not_zero p.1 r.0 (sym (first_coefficient p ps r) ∙ (e ∙ k))

tails : (p q : ℕ × ℤ) (ps qs : List (ℕ × ℤ)) → p.0 ≡ q.0 → p.1 ≡ q.1 → ((v : ℕ) → coefficient (p ∷ ps) v ≡ coefficient (q ∷ qs) v) → (v : ℕ) → coefficient ps v ≡ coefficient qs v
tails p q ps qs e f h v =
    let a = h v in
    let b : (if nat_eq p.0 v then p.1 else pos 0) ≡ (if nat_eq q.0 v then q.1 else pos 0) =
    ap (λ n. if nat_eq n v then p.1 else pos 0) e ∙ ap (λ z. if nat_eq q.0 v then z else pos 0) f in
    omega (arith, ints)

three : (m n : ℕ) → (m < n) ⊎ ((m ≡ n) ⊎ (n < m))
three zero zero = inr (inl refl)
three zero (suc n) = inl (omega arith)
three (suc m) zero = inr (inr (omega arith))
three (suc m) (suc n) = elim (three m n) [ inl l ↦ inl (omega arith) | inr (inl e) ↦ inr (inl (omega arith)) | inr (inr g) ↦ inr (inr (omega arith)) ]

pub rising_equal : (ps qs : List (ℕ × ℤ)) → IsRising ps → IsRising qs → ((v : ℕ) → coefficient ps v ≡ coefficient qs v) → ps ≡ qs
rising_equal [] [] r s h = refl
rising_equal [] (q ∷ qs) r s h = absurd (least_differs q qs [] s (sym (h q.0)) refl)
rising_equal (p ∷ ps) [] r s h = absurd (least_differs p ps [] r (h p.0) refl)
rising_equal (p ∷ ps) (q ∷ qs) r s h = elim (three p.0 q.0) [
  | inl l ↦ absurd (least_differs p ps (q ∷ qs) r (h p.0) (first_is_least q qs p.0 s l))
  | inr (inl e) ↦
      let f : p.1 ≡ q.1 = sym (first_coefficient p ps r) ∙ (h p.0 ∙ (ap (coefficient (q ∷ qs)) e ∙ first_coefficient q qs s)) in
      let i = rising_equal ps qs r.2 s.2 (tails p q ps qs e f h) in
      same_pair p q ps qs e f i
  | inr (inr g) ↦ absurd (least_differs q qs (p ∷ ps) s (sym (h q.0)) (first_is_least p ps q.0 r g))
]
  where
    same_pair : (p q : ℕ × ℤ) (ps qs : List (ℕ × ℤ)) → p.0 ≡ q.0 → p.1 ≡ q.1 → ps ≡ qs → p ∷ ps ≡ q ∷ qs
    same_pair p q ps qs e f i =
        let one : ℕ → List (ℕ × ℤ) = λ n. (n, p.1) ∷ ps in
        let two : ℤ → List (ℕ × ℤ) = λ z. (q.0, z) ∷ ps in
        ap one e ∙ (ap two f ∙ ap (λ rest. q ∷ rest) i)

-- ---- coefficients as sums
abbrev pub mark : ℕ → ℕ → ℤ
mark v n = if nat_eq n v then pos 1 else pos 0

marked : (z : ℤ) (b : Bool) → (if b then z else pos 0) ≡ z *ℤ (if b then pos 1 else pos 0)
marked z true = omega (arith, ints)
marked z false = sym (mul_zero z)

pub coefficient_sum : (v : ℕ) (ps : List (ℕ × ℤ)) → coefficient ps v ≡ sum_of (mark v) ps
coefficient_sum v [] = refl
coefficient_sum v (p ∷ ps) =
    let a = marked p.1 (nat_eq p.0 v) in
    let b = coefficient_sum v ps in
    omega (arith, ints)

pub coefficient_renamed : (f : ℕ → ℕ) (ps : List (ℕ × ℤ)) (w : ℕ) → coefficient (renamed_pairs f ps) w ≡ sum_of (λ n. mark w (f n)) ps
coefficient_renamed f ps w = coefficient_sum w (renamed_pairs f ps) ∙ sum_renamed f (mark w) ps

rises : (f : ℕ → ℕ) (ps : List (ℕ × ℤ)) → IsRising (renamed_pairs f ps)
rises f ps = rising_renamed f (record { rel = Eq; pairs = ps; constant = pos 0 })

-- ---- renamed twice, by equal names, and by the same names
pub renamed_twice : (f g : ℕ → ℕ) (ps : List (ℕ × ℤ)) → renamed_pairs g (renamed_pairs f ps) ≡ renamed_pairs (λ n. g (f n)) ps
renamed_twice f g ps = rising_equal (renamed_pairs g (renamed_pairs f ps)) (renamed_pairs (λ n. g (f n)) ps) (rises g (renamed_pairs f ps)) (rises (λ n. g (f n)) ps)
    (λ w. coefficient_renamed g (renamed_pairs f ps) w ∙ (sum_renamed f (λ n. mark w (g n)) ps ∙ sym (coefficient_renamed (λ n. g (f n)) ps w)))

pub renamed_agrees : (f g : ℕ → ℕ) (ps : List (ℕ × ℤ)) → ((n : ℕ) → Among n (map (λ p. p.0) ps) → f n ≡ g n) → renamed_pairs f ps ≡ renamed_pairs g ps
renamed_agrees f g ps same = rising_equal (renamed_pairs f ps) (renamed_pairs g ps) (rises f ps) (rises g ps)
    (λ w. coefficient_renamed f ps w ∙ (sum_agrees (λ n. mark w (f n)) (λ n. mark w (g n)) ps (λ n m. ap (mark w) (same n m)) ∙ sym (coefficient_renamed g ps w)))

pub renamed_same : (f : ℕ → ℕ) (ps : List (ℕ × ℤ)) → IsRising ps → ((n : ℕ) → Among n (map (λ p. p.0) ps) → f n ≡ n) → renamed_pairs f ps ≡ ps
renamed_same f ps r same = rising_equal (renamed_pairs f ps) ps (rises f ps) r
    (λ w. coefficient_renamed f ps w ∙ (sum_agrees (λ n. mark w (f n)) (mark w) ps (λ n m. ap (mark w) (same n m)) ∙ sym (coefficient_sum w ps)))

-- ---- pairs times a number
coefficient_times : (d : ℤ) (ps : List (ℕ × ℤ)) (v : ℕ) → coefficient (times d ps) v ≡ d *ℤ coefficient ps v
coefficient_times d [] v = sym (mul_zero d)
coefficient_times d (p ∷ ps) v = by (coefficient_times d ps v) (nat_eq p.0 v)
  where
    by : coefficient (times d ps) v ≡ d *ℤ coefficient ps v → (b : Bool) → (if b then d *ℤ p.1 else pos 0) +ℤ coefficient (times d ps) v ≡ d *ℤ ((if b then p.1 else pos 0) +ℤ coefficient ps v)
    by r true = let a = mul_add_ℤ d p.1 (coefficient ps v) in omega (arith, ints)
    by r false = let a = mul_add_ℤ d (pos 0) (coefficient ps v) in let z = mul_zero d in omega (arith, ints)

sum_times : (g : ℕ → ℤ) (d : ℤ) (ps : List (ℕ × ℤ)) → sum_of g (times d ps) ≡ d *ℤ sum_of g ps
sum_times g d [] = sym (mul_zero d)
sum_times g d (p ∷ ps) =
    let a = mul_assoc_ℤ d p.1 (g p.0) in
    let b = mul_add_ℤ d (p.1 *ℤ g p.0) (sum_of g ps) in
    let r = sum_times g d ps in
    omega (arith, ints)

above_times : (d : ℤ) (n : ℕ) (ps : List (ℕ × ℤ)) → Above n ps → Above n (times d ps)
above_times d n [] a = tt
above_times d n (p ∷ ps) a = (a.0, above_times d n ps a.1)

-- a product of numbers that are not 0 is not 0
nonzero_product : (d z : ℤ) → 0 < unsigned_abs d → ¬ (z ≡ pos 0) → ¬ (d *ℤ z ≡ pos 0)
nonzero_product d z h k e =
    let a : unsigned_abs d * unsigned_abs z ≡ 0 = sym (unsigned_abs-mul d z) ∙ ap unsigned_abs e in
    whole z k (unsigned_abs d) h a
  where
    whole : (z : ℤ) → ¬ (z ≡ pos 0) → (n : ℕ) → 0 < n → n * unsigned_abs z ≡ 0 → ⊥
    whole (pos zero) k n h a = k refl
    whole (pos (suc m)) k zero h a = omega arith
    whole (pos (suc m)) k (suc n) h a = omega arith
    whole (negsuc m) k zero h a = omega arith
    whole (negsuc m) k (suc n) h a = omega arith

zero_product : (d z : ℤ) → 0 < unsigned_abs d → is_zero z ≡ false → is_zero (d *ℤ z) ≡ false
zero_product d z h e = by (is_zero (d *ℤ z)) refl
  where
    by : (b : Bool) → is_zero (d *ℤ z) ≡ b → b ≡ false
    by false k = refl
    by true k = absurd (nonzero_product d z h (not_zero z e) (zero_is (d *ℤ z) k))

rising_times : (d : ℤ) (ps : List (ℕ × ℤ)) → 0 < unsigned_abs d → IsRising ps → IsRising (times d ps)
rising_times d [] h r = tt
rising_times d (p ∷ ps) h r = (zero_product d p.1 h r.0, above_times d p.0 ps r.1, rising_times d ps h r.2)

renamed_times : (f : ℕ → ℕ) (d : ℤ) (ps : List (ℕ × ℤ)) → 0 < unsigned_abs d → renamed_pairs f (times d ps) ≡ times d (renamed_pairs f ps)
renamed_times f d ps h = rising_equal (renamed_pairs f (times d ps)) (times d (renamed_pairs f ps)) (rises f (times d ps)) (rising_times d (renamed_pairs f ps) h (rises f ps))
    (λ w. coefficient_renamed f (times d ps) w ∙ (sum_times (λ n. mark w (f n)) d ps ∙ (ap (λ z. d *ℤ z) (sym (coefficient_renamed f ps w)) ∙ sym (coefficient_times d (renamed_pairs f ps) w))))

-- ---- a row is its normal form times a number
pub abs_divisor : (b : Bool) (g : ℕ) → 0 < g → unsigned_abs (divisor_of b g) ≡ g
abs_divisor true zero h = absurd (omega arith)
abs_divisor true (suc g) h = refl
abs_divisor false g h = refl

module _ (b : Bool) (g : ℕ) (h : 0 < g) where
  times_back : (n : ℕ) (ps : List (ℕ × ℤ)) → g ∣ joint_gcd n ps → times (divisor_of b g) (divided_pairs (divisor_of b g) ps) ≡ ps
  times_back n [] dv = refl
  times_back n (p ∷ ps) dv =
      let one : ℤ → ℕ × ℤ = λ z. (p.0, z) in
      let a = ap one (exact_divisor b g h p.1 (divides_first g n p ps dv)) in
      let r = times_back (gcd (unsigned_abs p.1) n) ps dv in
      cc

abbrev pub factor : Row → ℤ
factor r = divisor_of (is_flipped r.rel r.pairs) (max 1 (row_gcd r))

pub factor_back : (r : Row) → times_row (factor r) (normal r) ≡ r
factor_back r =
    let m = max 1 (row_gcd r) in
    let b = is_flipped r.rel r.pairs in
    let one : List (ℕ × ℤ) → Row = λ ps. record { rel = r.rel; pairs = ps; constant = factor r *ℤ int_div r.constant (factor r) } in
    let two : ℤ → Row = λ z. record { rel = r.rel; pairs = r.pairs; constant = z } in
    ap one (times_back b m (omega arith) (unsigned_abs r.constant) r.pairs (max_divides (row_gcd r)))
    ∙ ap two (exact_divisor b m (omega arith) r.constant (divides_on m (unsigned_abs r.constant) r.pairs (max_divides (row_gcd r))))

-- ---- names that keep variables apart
abbrev pub IsInjectiveOn : List ℕ → (ℕ → ℕ) → Type 0
IsInjectiveOn vs f = (m n : ℕ) → Among m vs → Among n vs → f m ≡ f n → m ≡ n

mark_injective : (f : ℕ → ℕ) (vs : List ℕ) → IsInjectiveOn vs f → (v n : ℕ) → Among v vs → Among n vs → mark (f v) (f n) ≡ mark v n
mark_injective f vs i v n a b = by (nat_eq n v) refl (nat_eq (f n) (f v)) refl
  where
    by : (s : Bool) → nat_eq n v ≡ s → (t : Bool) → nat_eq (f n) (f v) ≡ t → (if t then pos 1 else pos 0) ≡ (if s then pos 1 else pos 0)
    by true e true k = refl
    by false e false k = refl
    by true e false k = let q = eq-eqb (f n) (f v) (ap f (eqb-true n v e)) in absurd (cc)
    by false e true k = let q = eq-eqb n v (i n v b a (eqb-true (f n) (f v) k)) in absurd (cc)

pub coefficient_injective : (f : ℕ → ℕ) (ps : List (ℕ × ℤ)) → IsInjectiveOn (map (λ p. p.0) ps) f → (v : ℕ) → Among v (map (λ p. p.0) ps) → coefficient (renamed_pairs f ps) (f v) ≡ coefficient ps v
coefficient_injective f ps i v a = coefficient_renamed f ps (f v) ∙ (sum_agrees (λ n. mark (f v) (f n)) (mark v) ps (λ n m. mark_injective f (map (λ p. p.0) ps) i v n a m) ∙ sym (coefficient_sum v ps))

pub still_has : (f : ℕ → ℕ) (ps : List (ℕ × ℤ)) → IsRising ps → IsInjectiveOn (map (λ p. p.0) ps) f → ¬ (ps ≡ []) → ¬ (renamed_pairs f ps ≡ [])
still_has f [] r i some none = some refl
still_has f (p ∷ ps) r i some none =
    let a = coefficient_injective f (p ∷ ps) i p.0 first in
    let b : coefficient (renamed_pairs f (p ∷ ps)) (f p.0) ≡ pos 0 = ap (λ qs. coefficient qs (f p.0)) none in
    not_zero p.1 r.0 (sym (first_coefficient p ps r) ∙ (sym a ∙ b))

-- ---- the normal form of a renamed row
variables_divided : (d : ℤ) (ps : List (ℕ × ℤ)) → map (λ p. p.0) (divided_pairs d ps) ≡ map (λ p. p.0) ps
variables_divided d [] = refl
variables_divided d (p ∷ ps) = ap (λ ns. p.0 ∷ ns) (variables_divided d ps)

pub variables_normal : (r : Row) → row_variables (normal r) ≡ row_variables r
variables_normal r = variables_divided (factor r) r.pairs

some_left : (d : ℤ) (ps : List (ℕ × ℤ)) → ¬ (ps ≡ []) → ¬ (divided_pairs d ps ≡ [])
some_left d [] k e = k refl
some_left d (p ∷ ps) k e = cc

flipped_means : (rel : Rel) (ps : List (ℕ × ℤ)) → is_flipped rel ps ≡ true → (rel ≡ Eq) × ¬ (ps ≡ [])
flipped_means Eq [] e = absurd (cc)
flipped_means Eq (p ∷ ps) e = (refl, λ k. cc)
flipped_means Le ps e = absurd (cc)
flipped_means Lt ps e = absurd (cc)

renamed_row_times : (f : ℕ → ℕ) (d : ℤ) (r : Row) → 0 < unsigned_abs d → renamed f (times_row d r) ≡ times_row d (renamed f r)
renamed_row_times f d r h = ap (λ (ps : List (ℕ × ℤ)). record { rel = r.rel; pairs = ps; constant = d *ℤ r.constant }) (renamed_times f d r.pairs h)

-- where the names keep variables apart, dividing before or after the change gives one normal form
pub normal_renamed_normal : (f : ℕ → ℕ) (r : Row) → IsRising r.pairs → IsInjectiveOn (row_variables r) f → normal (renamed f (normal r)) ≡ normal (renamed f r)
normal_renamed_normal f r rising i =
    let m = max 1 (row_gcd r) in
    let b = is_flipped r.rel r.pairs in
    let up : 0 < unsigned_abs (factor r) = subst (λ n. 0 < n) (sym (abs_divisor b m (omega arith))) (omega arith) in
    let as_times : renamed f r ≡ times_row (factor r) (renamed f (normal r)) = ap (renamed f) (sym (factor_back r)) ∙ renamed_row_times f (factor r) (normal r) up in
    sym (ap normal as_times ∙ normal_times (factor r) (renamed f (normal r)) up (rises f (normal r).pairs) (may b refl))
  where
    apart : IsInjectiveOn (row_variables (normal r)) f
    apart = subst (λ vs. IsInjectiveOn vs f) (sym (variables_normal r)) i

    sign : (s : Bool) (n : ℕ) → 0 < n → s ≡ false → negative (divisor_of s n) ≡ false
    sign false n h e = refl
    sign true n h e = absurd (cc)

    may : (s : Bool) → is_flipped r.rel r.pairs ≡ s → MayTurn (factor r) (renamed f (normal r))
    may false e = inl (sign (is_flipped r.rel r.pairs) (max 1 (row_gcd r)) (omega arith) e)
    may true e =
        let k = flipped_means r.rel r.pairs e in
        inr (k.0, still_has f (normal r).pairs (rising_normal r rising) apart (some_left (factor r) r.pairs k.1))
