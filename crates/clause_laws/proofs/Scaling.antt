-- A row times a number has the same normal form.
use Rattle.std.proofs.Common.{◌≡◌, ℕ, zero, suc, ◌+◌, ◌*◌, ◌<◌, ◌≤◌, ◌/◌, ◌%◌, max, List, [], ◌∷◌, Bool, true, false, arith, refl, sym, ◌∙◌, ap, subst, ◌⊎◌, inl, inr}
use Rattle.std.specs.Prelude.{unsigned_abs, int_lt, int_div, not}
use Rattle.std.specs.Int.{IsGcd, ◌∣◌}
use Rattle.std.proofs.Math.IntN.{ℤ, pos, negsuc, neg_ℤ, ◌*ℤ◌, *ℤ_comm, pos-*ℤ-pos}
use Rattle.std.proofs.lemmas.Int.{ints, unsigned_abs-mul}
use Rattle.std.proofs.lemmas.Nat.{mod-mul-add, div-add-mod'}
use Rattle.std.proofs.lemmas.Nat.Gcd.{IsGcd-from_zero, IsGcd-from_mod, same_from_IsGcd, dvd_refl}
use Rattle.std.proofs.Math.Nat.{mul_assoc, mul_comm, mul-add, mul-lt-mul_of_pos_left, mod-lt, mul-dvd-mul_left, eq-zero_of_zero-dvd}
use Rattle.clp_rationals.proofs.Whole.{mul_neg, neg_mul, mul_assoc_ℤ}
use Rattle.clp_rationals.proofs.Lowest.{cancel_ℤ}
use Rattle.clp_model.specs.Clauses.{Row}
use Rattle.clp_model.specs.declared.sort.Rel.{Rel}
use Rattle.clp_model.specs.declared.sort.Rel.TheVariants.{Eq, Le, Lt}
use Rattle.linear_model.specs.Gcd.{gcd, gcd_within}
use Rattle.linear_model.specs.Forms.{IsRising, is_zero}
use Rattle.linear_model.specs.Normal.{joint_gcd, row_gcd, divided_pairs, divided, divisor_of, is_flipped, normal}
use Rattle.linear_laws.proofs.Ring.{mul_zero}
use Rattle.linear_laws.proofs.Gcd.{gcd_is}
use Rattle.linear_laws.proofs.Normal.{max_divides}
use Rattle.linear_laws.proofs.Normalized.{exact_divisor}
use Rattle.linear_laws.proofs.Divided.{divides_on, divides_first}

-- ---- the greatest common divisor of multiples
scaled_mod : (k a b : ℕ) → 0 < k → 0 < b → (k * a) % (k * b) ≡ k * (a % b)
scaled_mod k a b hk hb =
    let e = div-add-mod' a b in
    let small : k * (a % b) < k * b = mul-lt-mul_of_pos_left (mod-lt a hb) hk in
    let whole : k * a ≡ (a / b) * (k * b) + k * (a % b) =
    ap (λ n. k * n) (sym e) ∙ (mul-add k (a / b * b) (a % b) ∙ ap (λ n. n + k * (a % b)) (sym (mul_assoc k (a / b) b) ∙ (ap (λ n. n * b) (mul_comm k (a / b)) ∙ mul_assoc (a / b) k b))) in
    ap (λ n. n % (k * b)) whole ∙ mod-mul-add (a / b) (k * b) (k * (a % b)) small

scaled_within : (k n a b : ℕ) → 0 < k → b ≤ n → IsGcd (k * a) (k * b) (k * gcd_within n a b)
scaled_within k zero a b h l = IsGcd-from_zero (k * a) (k * b) (let e : b ≡ 0 = omega arith in ap (λ n. k * n) e ∙ omega arith)
scaled_within k (suc n) a zero h l = IsGcd-from_zero (k * a) (k * zero) (omega arith)
scaled_within k (suc n) a (suc b) h l =
    let r : a % suc b ≤ n = (let m = mod-lt a (below b) in omega arith) in
    let i = scaled_within k n (suc b) (a % suc b) h r in
    IsGcd-from_mod (k * a) (k * suc b) (k * gcd_within n (suc b) (a % suc b))
    (subst (λ m. IsGcd (k * suc b) m (k * gcd_within n (suc b) (a % suc b))) (sym (scaled_mod k a (suc b) h (below b))) i)
  where
    below : (b : ℕ) → 0 < suc b
    below b = omega arith

scaled_gcd : (k a b : ℕ) → 0 < k → gcd (k * a) (k * b) ≡ k * gcd a b
unfolding gcd
scaled_gcd k a b h = same_from_IsGcd (k * a) (k * b) (gcd (k * a) (k * b)) (k * gcd_within b a b) (gcd_is (k * a) (k * b)) (scaled_within k b a b h (omega arith))

-- ---- pairs and rows times a number
abbrev pub times : ℤ → List (ℕ × ℤ) → List (ℕ × ℤ)
times d [] = []
times d (p ∷ ps) = (p.0, d *ℤ p.1) ∷ times d ps

abbrev pub times_row : ℤ → Row → Row
times_row d r = record { rel = r.rel; pairs = times d r.pairs; constant = d *ℤ r.constant }

joint_times : (d : ℤ) (n : ℕ) (ps : List (ℕ × ℤ)) → 0 < unsigned_abs d → joint_gcd (unsigned_abs d * n) (times d ps) ≡ unsigned_abs d * joint_gcd n ps
joint_times d n [] h = refl
joint_times d n (p ∷ ps) h =
    ap (λ m. joint_gcd (gcd m (unsigned_abs d * n)) (times d ps)) (unsigned_abs-mul d p.1)
    ∙ (ap (λ m. joint_gcd m (times d ps)) (scaled_gcd (unsigned_abs d) (unsigned_abs p.1) n h)
    ∙ joint_times d (gcd (unsigned_abs p.1) n) ps h)

gcd_times : (d : ℤ) (r : Row) → 0 < unsigned_abs d → row_gcd (times_row d r) ≡ unsigned_abs d * row_gcd r
gcd_times d r h = ap (λ m. joint_gcd m (times d r.pairs)) (unsigned_abs-mul d r.constant) ∙ joint_times d (unsigned_abs r.constant) r.pairs h

-- ---- quotients
abbrev pub negative : ℤ → Bool
negative (pos n) = false
negative (negsuc n) = true

abbrev turned : Bool → Bool → Bool
turned true b = not b
turned false b = b

divisor_times : (d : ℤ) (b : Bool) (g : ℕ) → divisor_of (turned (negative d) b) (unsigned_abs d * g) ≡ d *ℤ divisor_of b g
divisor_times (pos n) false g = sym (pos-*ℤ-pos n g)
divisor_times (pos n) true g = sym (mul_neg (pos n) (pos g) ∙ ap neg_ℤ (pos-*ℤ-pos n g))
divisor_times (negsuc n) false g =
    let a = neg_mul (pos (suc n)) (pos g) in
    let b = pos-*ℤ-pos (suc n) g in
    sym (a ∙ ap neg_ℤ b)
divisor_times (negsuc n) true g =
    let a = neg_mul (pos (suc n)) (neg_ℤ (pos g)) in
    let b = mul_neg (pos (suc n)) (pos g) in
    let c = pos-*ℤ-pos (suc n) g in
    sym (a ∙ omega (arith, ints))

cancel_divisor : (b : Bool) (n : ℕ) (x y : ℤ) → 0 < n → divisor_of b n *ℤ x ≡ divisor_of b n *ℤ y → x ≡ y
cancel_divisor false n x y h e = cancel_ℤ x y n h (*ℤ_comm x (pos n) ∙ (e ∙ *ℤ_comm (pos n) y))
cancel_divisor true n x y h e =
    let a = neg_mul (pos n) x in
    let b = neg_mul (pos n) y in
    let c : pos n *ℤ x ≡ pos n *ℤ y = omega (arith, ints) in
    cancel_ℤ x y n h (*ℤ_comm x (pos n) ∙ (c ∙ *ℤ_comm (pos n) y))

positive_times : (m n : ℕ) → 0 < m → 0 < n → 0 < m * n
positive_times (suc m) (suc n) h k = omega arith
positive_times zero n h k = absurd (omega arith)
positive_times (suc m) zero h k = absurd (omega arith)

module _ (d : ℤ) (up : 0 < unsigned_abs d) (b : Bool) (g : ℕ) (h : 0 < g) where
  abbrev D : ℤ
  D = divisor_of (turned (negative d) b) (unsigned_abs d * g)

  quotient_times : (z : ℤ) → g ∣ unsigned_abs z → int_div (d *ℤ z) D ≡ int_div z (divisor_of b g)
  quotient_times z dv =
      let q = int_div z (divisor_of b g) in
      let large : 0 < unsigned_abs d * g = positive_times (unsigned_abs d) g up h in
      let both : unsigned_abs d * g ∣ unsigned_abs (d *ℤ z) = subst (λ m. unsigned_abs d * g ∣ m) (sym (unsigned_abs-mul d z)) (mul-dvd-mul_left g (unsigned_abs d) dv) in
      let one : D *ℤ int_div (d *ℤ z) D ≡ d *ℤ z = exact_divisor (turned (negative d) b) (unsigned_abs d * g) large (d *ℤ z) both in
      let two : D *ℤ q ≡ d *ℤ z = ap (λ x. x *ℤ q) (divisor_times d b g) ∙ (mul_assoc_ℤ d (divisor_of b g) q ∙ ap (λ x. d *ℤ x) (exact_divisor b g h z dv)) in
      cancel_divisor (turned (negative d) b) (unsigned_abs d * g) (int_div (d *ℤ z) D) q large (one ∙ sym two)

  quotients_times : (n : ℕ) (ps : List (ℕ × ℤ)) → g ∣ joint_gcd n ps → divided_pairs D (times d ps) ≡ divided_pairs (divisor_of b g) ps
  quotients_times n [] dv = refl
  quotients_times n (p ∷ ps) dv =
      let one : ℤ → ℕ × ℤ = λ z. (p.0, z) in
      let a = ap one (quotient_times p.1 (divides_first g n p ps dv)) in
      let r = quotients_times (gcd (unsigned_abs p.1) n) ps dv in
      cc

  divided_times : (r : Row) → g ∣ row_gcd r → divided D (times_row d r) ≡ divided (divisor_of b g) r
  divided_times r dv =
      let one : List (ℕ × ℤ) → Row = λ ps. record { rel = r.rel; pairs = ps; constant = int_div (d *ℤ r.constant) D } in
      let two : ℤ → Row = λ c. record { rel = r.rel; pairs = divided_pairs (divisor_of b g) r.pairs; constant = c } in
      ap one (quotients_times (unsigned_abs r.constant) r.pairs dv) ∙ ap two (quotient_times r.constant (divides_on g (unsigned_abs r.constant) r.pairs dv))

-- ---- the sign of the first coefficient
below_times : (d z : ℤ) → 0 < unsigned_abs d → ¬ (z ≡ pos 0) → int_lt (d *ℤ z) (pos 0) ≡ turned (negative d) (int_lt z (pos 0))
below_times (pos zero) z h k = absurd (omega arith)
below_times (pos (suc n)) (pos zero) h k = absurd (k refl)
below_times (pos (suc n)) (pos (suc m)) h k = ap (λ x. int_lt x (pos 0)) (pos-*ℤ-pos (suc n) (suc m)) ∙ grind (arith, ints)
below_times (pos (suc n)) (negsuc m) h k =
    let e = mul_neg (pos (suc n)) (pos (suc m)) in
    let f = pos-*ℤ-pos (suc n) (suc m) in
    ap (λ x. int_lt x (pos 0)) (e ∙ ap neg_ℤ f) ∙ grind (arith, ints)
below_times (negsuc n) (pos zero) h k = absurd (k refl)
below_times (negsuc n) (pos (suc m)) h k =
    let e = neg_mul (pos (suc n)) (pos (suc m)) in
    let f = pos-*ℤ-pos (suc n) (suc m) in
    ap (λ x. int_lt x (pos 0)) (e ∙ ap neg_ℤ f) ∙ grind (arith, ints)
below_times (negsuc n) (negsuc m) h k =
    let e = neg_mul (pos (suc n)) (negsuc m) in
    let f = mul_neg (pos (suc n)) (pos (suc m)) in
    let g = pos-*ℤ-pos (suc n) (suc m) in
    let i : negsuc n *ℤ negsuc m ≡ pos (suc n * suc m) = e ∙ omega (arith, ints) in
    ap (λ x. int_lt x (pos 0)) i ∙ grind (arith, ints)

-- a number that turns no row that is not an equation with a variable
abbrev pub MayTurn : ℤ → Row → Type 0
MayTurn d r = (negative d ≡ false) ⊎ ((r.rel ≡ Eq) × ¬ (r.pairs ≡ []))

pub not_zero : (z : ℤ) → is_zero z ≡ false → ¬ (z ≡ pos 0)
not_zero z e k = let f = ap is_zero k in absurd (cc)

flipped_times : (d : ℤ) (rel : Rel) (ps : List (ℕ × ℤ)) → 0 < unsigned_abs d → IsRising ps → (negative d ≡ false) ⊎ ((rel ≡ Eq) × ¬ (ps ≡ [])) → is_flipped rel (times d ps) ≡ turned (negative d) (is_flipped rel ps)
flipped_times d Eq [] h r (inl e) = sym (ap (λ s. turned s false) e)
flipped_times d Eq [] h r (inr k) = absurd (k.1 refl)
flipped_times d Eq (p ∷ ps) h r s = below_times d p.1 h (not_zero p.1 r.0)
flipped_times d Le ps h r (inl e) = sym (ap (λ s. turned s false) e)
flipped_times d Le ps h r (inr k) = absurd (let e = k.0 in cc)
flipped_times d Lt ps h r (inl e) = sym (ap (λ s. turned s false) e)
flipped_times d Lt ps h r (inr k) = absurd (let e = k.0 in cc)

zero_whole : (z : ℤ) → 0 ∣ unsigned_abs z → z ≡ pos 0
zero_whole (pos n) d = ap pos (eq-zero_of_zero-dvd d)
zero_whole (negsuc n) d = absurd (let e = eq-zero_of_zero-dvd d in omega arith)

-- rows whose joint divisor is 0 are all zero
no_pairs : (n : ℕ) (ps : List (ℕ × ℤ)) → IsRising ps → joint_gcd n ps ≡ 0 → ps ≡ []
no_pairs n [] r e = refl
no_pairs n (p ∷ ps) r e =
    let z : p.1 ≡ pos 0 = zero_whole p.1 (divides_first 0 n p ps (subst (λ k. 0 ∣ k) (sym e) (dvd_refl 0))) in
    absurd (not_zero p.1 r.0 z)

zero_times : (d : ℤ) (r : Row) → IsRising r.pairs → row_gcd r ≡ 0 → times_row d r ≡ r
zero_times d r h e =
    let p = no_pairs (unsigned_abs r.constant) r.pairs h e in
    let c : r.constant ≡ pos 0 = zero_whole r.constant (divides_on 0 (unsigned_abs r.constant) r.pairs (subst (λ k. 0 ∣ k) (sym e) (dvd_refl 0))) in
    let of_pairs : List (ℕ × ℤ) → Row = λ ps. record { rel = r.rel; pairs = ps; constant = d *ℤ r.constant } in
    let of_constant : ℤ → Row = λ z. record { rel = r.rel; pairs = r.pairs; constant = z } in
    ap of_pairs (ap (times d) p ∙ sym p) ∙ ap of_constant (ap (λ z. d *ℤ z) c ∙ (mul_zero d ∙ sym c))

-- the normal form of a row times a number is that of the row
pub normal_times : (d : ℤ) (r : Row) → 0 < unsigned_abs d → IsRising r.pairs → MayTurn d r → normal (times_row d r) ≡ normal r
normal_times d r up rising turn = by (row_gcd r) refl
  where
    some : 0 < row_gcd r → normal (times_row d r) ≡ normal r
    some h =
        let m = max 1 (row_gcd r) in
        let b = is_flipped r.rel r.pairs in
        let k : max 1 (row_gcd (times_row d r)) ≡ unsigned_abs d * m =
        (let e = gcd_times d r up in let p = positive_times (unsigned_abs d) (row_gcd r) up h in let q : m ≡ row_gcd r = omega arith in let w : unsigned_abs d * m ≡ unsigned_abs d * row_gcd r = ap (λ n. unsigned_abs d * n) q in omega arith) in
        let f = flipped_times d r.rel r.pairs up rising turn in
        ap (λ n. divided (divisor_of (is_flipped r.rel (times d r.pairs)) n) (times_row d r)) k
        ∙ (ap (λ s. divided (divisor_of s (unsigned_abs d * m)) (times_row d r)) f
        ∙ divided_times d up b m (omega arith) r (max_divides (row_gcd r)))

    by : (n : ℕ) → row_gcd r ≡ n → normal (times_row d r) ≡ normal r
    by zero e = ap normal (zero_times d r rising e)
    by (suc n) e = some (omega arith)
