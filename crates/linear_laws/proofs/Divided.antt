-- Exact division of a row: the coefficients, and that the variables still rise.
use Rattle.std.proofs.Common.{◌≡◌, ℕ, ◌<◌, List, [], ◌∷◌, max, Bool, true, false, arith, refl, sym, ◌∙◌, ap}
use Rattle.std.specs.Prelude.{nat_eq, unsigned_abs, int_div, if◌then◌else◌}
use Rattle.std.specs.Int.{◌∣◌}
use Rattle.std.proofs.Math.IntN.{ℤ, pos, ◌+ℤ◌, ◌*ℤ◌, *ℤ_comm, zero-*ℤ}
use Rattle.std.proofs.lemmas.Int.{ints}
use Rattle.std.proofs.lemmas.Nat.Gcd.{dvd_trans}
use Rattle.clp_rationals.proofs.Whole.{mul_add_ℤ, neg_mul}
use Rattle.clp_rationals.proofs.Lowest.{cancel_ℤ}
use Rattle.clp_model.specs.Clauses.{Row}
use Rattle.linear_model.specs.Forms.{Above, IsRising, is_zero, coefficient}
use Rattle.linear_model.specs.Gcd.{gcd}
use Rattle.linear_model.specs.Normal.{joint_gcd, row_gcd, divided_pairs, divisor_of, is_flipped, normal, IsNormal}
use Rattle.linear_laws.proofs.Ring.{mul_zero}
use Rattle.linear_laws.proofs.Sums.{zero_is}
use Rattle.linear_laws.proofs.Gcd.{gcd_is}
use Rattle.linear_laws.proofs.Normal.{max_divides}
use Rattle.linear_laws.proofs.Normalized.{exact_divisor, normal_normal}

pub above_divided : (d : ℤ) (n : ℕ) (ps : List (ℕ × ℤ)) → Above n ps → Above n (divided_pairs d ps)
above_divided d n [] a = tt
above_divided d n (p ∷ ps) a = (a.0, above_divided d n ps a.1)

-- what divides the joint divisor, divides the number that it begins with
pub divides_on : (g n : ℕ) (ps : List (ℕ × ℤ)) → g ∣ joint_gcd n ps → g ∣ n
divides_on g n [] d = d
divides_on g n (p ∷ ps) d = dvd_trans g (divides_on g (gcd (unsigned_abs p.1) n) ps d) (gcd_is (unsigned_abs p.1) n).1

pub divides_first : (g n : ℕ) (p : ℕ × ℤ) (ps : List (ℕ × ℤ)) → g ∣ joint_gcd n (p ∷ ps) → g ∣ unsigned_abs p.1
divides_first g n p ps d = dvd_trans g (divides_on g (gcd (unsigned_abs p.1) n) ps d) (gcd_is (unsigned_abs p.1) n).0

module _ (d : ℤ) (g : ℕ) (ex : (z : ℤ) → g ∣ unsigned_abs z → d *ℤ int_div z d ≡ z) where
  not_zero : (z : ℤ) → g ∣ unsigned_abs z → is_zero z ≡ false → is_zero (int_div z d) ≡ false
  not_zero z k e = by (is_zero (int_div z d)) refl
    where
      by : (b : Bool) → is_zero (int_div z d) ≡ b → is_zero (int_div z d) ≡ false
      by false i = i
      by true i =
          let j : z ≡ pos 0 = sym (ex z k) ∙ (ap (λ y. d *ℤ y) (zero_is (int_div z d) i) ∙ mul_zero d) in
          absurd (let k : is_zero z ≡ true = ap is_zero j in cc)

  pub rising_divided : (n : ℕ) (ps : List (ℕ × ℤ)) → g ∣ joint_gcd n ps → IsRising ps → IsRising (divided_pairs d ps)
  rising_divided n [] k r = tt
  rising_divided n (p ∷ ps) k r = (not_zero p.1 (divides_first g n p ps k) r.0, above_divided d p.0 ps r.1, rising_divided (gcd (unsigned_abs p.1) n) ps k r.2)

  pub coefficient_divided : (v n : ℕ) (ps : List (ℕ × ℤ)) → g ∣ joint_gcd n ps → d *ℤ coefficient (divided_pairs d ps) v ≡ coefficient ps v
  coefficient_divided v n [] k = mul_zero d
  coefficient_divided v n (p ∷ ps) k = by (coefficient_divided v (gcd (unsigned_abs p.1) n) ps k) (nat_eq p.0 v)
    where
      by : d *ℤ coefficient (divided_pairs d ps) v ≡ coefficient ps v → (b : Bool)
          → d *ℤ ((if b then int_div p.1 d else pos 0) +ℤ coefficient (divided_pairs d ps) v) ≡ (if b then p.1 else pos 0) +ℤ coefficient ps v
      by ih true =
          let a = mul_add_ℤ d (int_div p.1 d) (coefficient (divided_pairs d ps) v) in
          let e = ex p.1 (divides_first g n p ps k) in
          a ∙ omega (arith, ints)
      by ih false =
          let a = mul_add_ℤ d (pos 0) (coefficient (divided_pairs d ps) v) in
          let e = mul_zero d in
          a ∙ omega (arith, ints)

pub zero_back : (g : ℕ) (z : ℤ) → 0 < g → pos g *ℤ z ≡ pos 0 → z ≡ pos 0
zero_back g z h e = cancel_ℤ z (pos 0) g h (*ℤ_comm z (pos g) ∙ (e ∙ sym (zero-*ℤ (pos g))))

divisor_zero_back : (b : Bool) (g : ℕ) (z : ℤ) → 0 < g → divisor_of b g *ℤ z ≡ pos 0 → z ≡ pos 0
divisor_zero_back true g z h e = zero_back g z h (let a = neg_mul (pos g) z in omega (arith, ints))
divisor_zero_back false g z h e = zero_back g z h e

-- ---- the normal form
pub rising_normal : (r : Row) → IsRising r.pairs → IsRising (normal r).pairs
rising_normal r h =
    let g = max 1 (row_gcd r) in
    let b = is_flipped r.rel r.pairs in
    rising_divided (divisor_of b g) g (exact_divisor b g (omega arith)) (unsigned_abs r.constant) r.pairs (max_divides (row_gcd r)) h

pub normal_is_normal : (r : Row) → IsRising r.pairs → IsNormal (normal r)
normal_is_normal r h = record { rising = rising_normal r h; stays = normal_normal r }

-- it has the coefficients of the row, up to a factor that is not 0
pub coefficient_normal : (r : Row) (v : ℕ) → divisor_of (is_flipped r.rel r.pairs) (max 1 (row_gcd r)) *ℤ coefficient (normal r).pairs v ≡ coefficient r.pairs v
coefficient_normal r v =
    let g = max 1 (row_gcd r) in
    let b = is_flipped r.rel r.pairs in
    coefficient_divided (divisor_of b g) g (exact_divisor b g (omega arith)) v (unsigned_abs r.constant) r.pairs (max_divides (row_gcd r))

pub normal_zero : (r : Row) (v : ℕ) → coefficient r.pairs v ≡ pos 0 → coefficient (normal r).pairs v ≡ pos 0
normal_zero r v e = divisor_zero_back (is_flipped r.rel r.pairs) (max 1 (row_gcd r)) (coefficient (normal r).pairs v) (omega arith) (coefficient_normal r v ∙ e)

pub normal_zero_back : (r : Row) (v : ℕ) → coefficient (normal r).pairs v ≡ pos 0 → coefficient r.pairs v ≡ pos 0
normal_zero_back r v e =
    let d = divisor_of (is_flipped r.rel r.pairs) (max 1 (row_gcd r)) in
    sym (coefficient_normal r v) ∙ (ap (λ z. d *ℤ z) e ∙ mul_zero d)
