-- A normal form is its own normal form, and its variables rise where those of the row do.
use Rattle.std.proofs.Common.{◌≡◌, ℕ, zero, suc, ◌*◌, ◌<◌, ◌≤◌, ◌/◌, max, List, [], ◌∷◌, Bool, true, false, arith, refl, sym, ◌∙◌, ap, subst}
use Rattle.std.specs.Prelude.{unsigned_abs, int_lt, int_div}
use Rattle.std.specs.Int.{◌∣◌}
use Rattle.std.proofs.Math.IntN.{ℤ, pos, negsuc, neg_ℤ, ◌*ℤ◌, *ℤ_comm, zero-*ℤ}
use Rattle.std.proofs.lemmas.Int.{ints, unsigned_abs-mul}
use Rattle.std.proofs.lemmas.Nat.Gcd.{dvd_trans, dvd_refl, le_of_dvd}
use Rattle.std.proofs.Math.Nat.{mul-dvd-mul_left, dvd_of_mul-dvd-mul_left, eq-zero_of_zero-dvd, one-dvd}
use Rattle.std.proofs.lemmas.Bool.Decides.{nat_tests}
use Rattle.clp_model.specs.Clauses.{Row}
use Rattle.clp_model.specs.declared.sort.Rel.{Rel}
use Rattle.clp_model.specs.declared.sort.Rel.TheVariants.{Eq, Le, Lt}
use Rattle.linear_model.specs.Gcd.{gcd}
use Rattle.linear_model.specs.Forms.{is_zero, Above, IsRising}
use Rattle.linear_model.specs.Normal.{joint_gcd, row_gcd, divided_pairs, divided, divisor_of, is_flipped, normal, IsNormal}
use Rattle.lin_row.proofs.Divisors.{gcd_is}
use Rattle.lin_row.proofs.Division.{exact, exact_neg, max_divides}

-- ---- what divides all, divides the joint divisor, and back
abbrev pub All∣ : ℕ → List (ℕ × ℤ) → Type 0
All∣ d [] = Unit {0}
All∣ d (p ∷ ps) = (d ∣ unsigned_abs p.1) × All∣ d ps

pub joint_divides : (n : ℕ) (ps : List (ℕ × ℤ)) → (joint_gcd n ps ∣ n) × All∣ (joint_gcd n ps) ps
joint_divides n [] = (dvd_refl n, tt)
joint_divides n (p ∷ ps) =
    let j = joint_divides (gcd (unsigned_abs p.1) n) ps in
    let i = gcd_is (unsigned_abs p.1) n in
    (dvd_trans (joint_gcd n (p ∷ ps)) j.0 i.1, (dvd_trans (joint_gcd n (p ∷ ps)) j.0 i.0, j.1))

joint_greatest : (d n : ℕ) (ps : List (ℕ × ℤ)) → d ∣ n → All∣ d ps → d ∣ joint_gcd n ps
joint_greatest d n [] h a = h
joint_greatest d n (p ∷ ps) h a = joint_greatest d (gcd (unsigned_abs p.1) n) ps ((gcd_is (unsigned_abs p.1) n).2 d a.0 h) a.1

abs_divisor : (b : Bool) (g : ℕ) → 0 < g → unsigned_abs (divisor_of b g) ≡ g
abs_divisor true zero h = absurd (omega arith)
abs_divisor true (suc g) h = refl
abs_divisor false g h = refl

exact_divisor : (b : Bool) (g : ℕ) → 0 < g → (z : ℤ) → g ∣ unsigned_abs z → divisor_of b g *ℤ int_div z (divisor_of b g) ≡ z
exact_divisor true g h z d = exact_neg z g h d
exact_divisor false g h z d = exact z g h d

module _ (b : Bool) (g h : ℕ) (up : 0 < g) where
  -- what divides the quotient, times the divisor divides the number
  times : (z : ℤ) → g ∣ unsigned_abs z → h ∣ unsigned_abs (int_div z (divisor_of b g)) → g * h ∣ unsigned_abs z
  times z d k =
      let q = unsigned_abs (int_div z (divisor_of b g)) in
      let a : unsigned_abs z ≡ g * q =
      sym (ap unsigned_abs (exact_divisor b g up z d)) ∙ (unsigned_abs-mul (divisor_of b g) (int_div z (divisor_of b g)) ∙ ap (λ n. n * q) (abs_divisor b g up)) in
      subst (λ n. g * h ∣ n) (sym a) (mul-dvd-mul_left h g k)

  times_all : (ps : List (ℕ × ℤ)) → All∣ g ps → All∣ h (divided_pairs (divisor_of b g) ps) → All∣ (g * h) ps
  times_all [] d k = tt
  times_all (p ∷ ps) d k = (times p.1 d.0 k.0, times_all ps d.1 k.1)

all_divides : (d e : ℕ) (ps : List (ℕ × ℤ)) → d ∣ e → All∣ e ps → All∣ d ps
all_divides d e [] h a = tt
all_divides d e (p ∷ ps) h a = (dvd_trans d h a.0, all_divides d e ps h a.1)

zero_int : (z : ℤ) → 0 ∣ unsigned_abs z → z ≡ pos 0
zero_int (pos n) d = ap pos (eq-zero_of_zero-dvd d)
zero_int (negsuc n) d = absurd (let e = eq-zero_of_zero-dvd d in omega arith)

zero_over : (b : Bool) (m : ℕ) → int_div (pos 0) (divisor_of b m) ≡ pos 0
zero_over true zero = refl
zero_over true (suc m) = ap (λ n. neg_ℤ (pos n)) (let e : 0 / suc m ≡ 0 = omega arith in e)
zero_over false zero = refl
zero_over false (suc m) = ap pos (omega arith)

zero_quotient : (b : Bool) (m : ℕ) (z : ℤ) → 0 ∣ unsigned_abs z → 0 ∣ unsigned_abs (int_div z (divisor_of b m))
zero_quotient b m z d = subst (λ y. 0 ∣ unsigned_abs y) (sym (ap (λ y. int_div y (divisor_of b m)) (zero_int z d) ∙ zero_over b m)) (dvd_refl 0)

zero_quotients : (b : Bool) (m : ℕ) (ps : List (ℕ × ℤ)) → All∣ 0 ps → All∣ 0 (divided_pairs (divisor_of b m) ps)
zero_quotients b m [] a = tt
zero_quotients b m (p ∷ ps) a = (zero_quotient b m p.1 a.0, zero_quotients b m ps a.1)

-- the quotients have no joint divisor but 1
pub no_more : (r : Row) (b : Bool) → max 1 (row_gcd (divided (divisor_of b (max 1 (row_gcd r))) r)) ≡ 1
no_more r b = by (row_gcd r) refl
  where
    product : max 1 (row_gcd r) * row_gcd (divided (divisor_of b (max 1 (row_gcd r))) r) ∣ row_gcd r
    product =
        let m = max 1 (row_gcd r) in
        let h = row_gcd (divided (divisor_of b m) r) in
        let j = joint_divides (unsigned_abs r.constant) r.pairs in
        let k = joint_divides (unsigned_abs (int_div r.constant (divisor_of b m))) (divided_pairs (divisor_of b m) r.pairs) in
        let up : 0 < m = omega arith in
        let md = max_divides (row_gcd r) in
        joint_greatest (m * h) (unsigned_abs r.constant) r.pairs
        (times b m h up r.constant (dvd_trans m md j.0) k.0)
        (times_all b m h up r.pairs (all_divides m (row_gcd r) r.pairs md j.1) k.1)

    by : (n : ℕ) → row_gcd r ≡ n → max 1 (row_gcd (divided (divisor_of b (max 1 (row_gcd r))) r)) ≡ 1
    by zero e =
        let m = max 1 (row_gcd r) in
        let j = joint_divides (unsigned_abs r.constant) r.pairs in
        let c = zero_quotient b m r.constant (subst (λ k. k ∣ unsigned_abs r.constant) e j.0) in
        let a = zero_quotients b m r.pairs (subst (λ k. All∣ k r.pairs) e j.1) in
        let z = eq-zero_of_zero-dvd (joint_greatest 0 (unsigned_abs (int_div r.constant (divisor_of b m))) (divided_pairs (divisor_of b m) r.pairs) c a) in
        omega arith
    by (suc n) e =
        let h = row_gcd (divided (divisor_of b (max 1 (row_gcd r))) r) in
        let m : max 1 (row_gcd r) ≡ suc n = omega arith in
        let p : suc n * h ∣ suc n * 1 = subst (λ k. k * h ∣ suc n * 1) m (subst (λ k. max 1 (row_gcd r) * h ∣ k) (let q : row_gcd r ≡ suc n * 1 = omega arith in q) product) in
        let one : h ∣ 1 = dvd_of_mul-dvd-mul_left h (omega arith) p in
        let le : h ≤ 1 = le_of_dvd (omega arith) one in
        omega arith

-- the first coefficient of an equation is not below 0
not_below : (n : ℕ) → int_lt (pos n) (pos 0) ≡ false
not_below n = grind (arith, ints)

turned : (z : ℤ) (m : ℕ) → 0 < m → int_lt (int_div z (divisor_of (int_lt z (pos 0)) m)) (pos 0) ≡ false
turned (pos n) m h = ap (λ b. int_lt (int_div (pos n) (divisor_of b m)) (pos 0)) (not_below n) ∙ not_below (n / m)
turned (negsuc n) zero h = absurd (omega arith)
turned (negsuc n) (suc m) h = not_below (suc n / suc m)

not_flipped : (rel : Rel) (ps : List (ℕ × ℤ)) (m : ℕ) → 0 < m → is_flipped rel (divided_pairs (divisor_of (is_flipped rel ps) m) ps) ≡ false
not_flipped Eq [] m h = refl
not_flipped Eq (p ∷ ps) m h = turned p.1 m h
not_flipped Le ps m h = refl
not_flipped Lt ps m h = refl

by_one : (z : ℤ) → int_div z (pos 1) ≡ z
by_one z = let e = exact z 1 (omega arith) (one-dvd (unsigned_abs z)) in e' e
  where
    e' : pos 1 *ℤ int_div z (pos 1) ≡ z → int_div z (pos 1) ≡ z
    e' e = omega (arith, ints)

pairs_by_one : (ps : List (ℕ × ℤ)) → divided_pairs (pos 1) ps ≡ ps
pairs_by_one [] = refl
pairs_by_one (p ∷ ps) =
    let one : ℤ → ℕ × ℤ = λ z. (p.0, z) in
    let a = ap one (by_one p.1) in
    let b = pairs_by_one ps in cc

row_by_one : (r : Row) → divided (pos 1) r ≡ r
row_by_one r =
    let one : List (ℕ × ℤ) → Row = λ ps. record { rel = r.rel; pairs = ps; constant = int_div r.constant (pos 1) } in
    let two : ℤ → Row = λ c. record { rel = r.rel; pairs = r.pairs; constant = c } in
    ap one (pairs_by_one r.pairs) ∙ ap two (by_one r.constant)

pub normal_normal : (r : Row) → normal (normal r) ≡ normal r
normal_normal r =
    let m = max 1 (row_gcd r) in
    let b = is_flipped r.rel r.pairs in
    let s = divided (divisor_of b m) r in
    let e = not_flipped r.rel r.pairs m (omega arith) in
    let f = no_more r b in
    ap (λ t. divided (divisor_of t (max 1 (row_gcd s))) s) e ∙ (ap (λ n. divided (pos n) s) f ∙ row_by_one s)

-- ---- no quotient is 0
pub mul_zero : (z : ℤ) → z *ℤ pos 0 ≡ pos 0
mul_zero z = *ℤ_comm z (pos 0) ∙ zero-*ℤ z

positive_stays : (n : ℕ) → is_zero (pos (suc n)) ≡ false
positive_stays n = grind (arith, nat_tests)

quotient_stays : (b : Bool) (g : ℕ) → 0 < g → (z : ℤ) → g ∣ unsigned_abs z → is_zero z ≡ false → is_zero (int_div z (divisor_of b g)) ≡ false
quotient_stays b g h z d e = by (int_div z (divisor_of b g)) (exact_divisor b g h z d)
  where
    by : (q : ℤ) → divisor_of b g *ℤ q ≡ z → is_zero q ≡ false
    by (pos zero) k = let m = mul_zero (divisor_of b g) in let f = ap is_zero (sym k ∙ m) in cc
    by (pos (suc n)) k = positive_stays n
    by (negsuc n) k = refl

above_divided : (d : ℤ) (n : ℕ) (ps : List (ℕ × ℤ)) → Above n ps → Above n (divided_pairs d ps)
above_divided d n [] a = tt
above_divided d n (p ∷ ps) a = (a.0, above_divided d n ps a.1)

divided_rising : (b : Bool) (g : ℕ) → 0 < g → (ps : List (ℕ × ℤ)) → All∣ g ps → IsRising ps → IsRising (divided_pairs (divisor_of b g) ps)
divided_rising b g h [] d r = tt
divided_rising b g h (p ∷ ps) d r =
    (quotient_stays b g h p.1 d.0 r.0, above_divided (divisor_of b g) p.0 ps r.1, divided_rising b g h ps d.1 r.2)

pub normal_rising : (r : Row) → IsRising r.pairs → IsRising (normal r).pairs
normal_rising r h =
    let j = joint_divides (unsigned_abs r.constant) r.pairs in
    let m = max 1 (row_gcd r) in
    divided_rising (is_flipped r.rel r.pairs) m (omega arith) r.pairs (all_divides m (row_gcd r) r.pairs (max_divides (row_gcd r)) j.1) h

pub normal_is : (r : Row) → IsRising r.pairs → IsNormal (normal r)
normal_is r h = record { rising = normal_rising r h; stays = normal_normal r }
