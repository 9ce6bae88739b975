-- The normal form has the same solutions.
use Rattle.std.proofs.Common.{◌≡◌, ℕ, zero, suc, ◌*◌, ◌<◌, ◌/◌, List, [], ◌∷◌, Bool, true, false, max, arith, refl, sym, ◌∙◌, ap, subst}
use Rattle.std.specs.Prelude.{unsigned_abs, int_div, ◌↔◌}
use Rattle.std.specs.Int.{◌∣◌}
use Rattle.std.proofs.Math.IntN.{ℤ, pos, negsuc, neg_ℤ, ◌*ℤ◌, pos-*ℤ-pos}
use Rattle.std.proofs.lemmas.Int.{ints}
use Rattle.std.proofs.lemmas.Nat.Gcd.{dvd_trans, dvd_refl, dvd-zero}
use Rattle.clp_rationals.proofs.Whole.{mul_neg, neg_mul, mul_add_ℤ, mul_assoc_ℤ}
use Rattle.clp_model.specs.Values.{Valuation}
use Rattle.clp_model.specs.Clauses.{Row, RowHolds, Compares, sum_of}
use Rattle.clp_model.specs.declared.sort.Rel.{Rel}
use Rattle.clp_model.specs.declared.sort.Rel.TheVariants.{Eq, Le, Lt}
use Rattle.linear_model.specs.Gcd.{gcd}
use Rattle.linear_model.specs.Normal.{joint_gcd, row_gcd, divided_pairs, divided, first_is_negative, divisor_of, is_flipped, normal}
use Rattle.linear_laws.proofs.Ring.{mul_zero}
use Rattle.linear_laws.proofs.Gcd.{gcd_is, divided_back}
use Rattle.linear_laws.proofs.Valuations.{row_value, compares_mul, compares_back}

-- ---- exact division
pub exact : (z : ℤ) (g : ℕ) → 0 < g → g ∣ unsigned_abs z → pos g *ℤ int_div z (pos g) ≡ z
exact (pos n) g h d = pos-*ℤ-pos g (n / g) ∙ ap pos (let e = divided_back g n d in omega arith)
exact (negsuc n) g h d = mul_neg (pos g) (pos (suc n / g)) ∙ (ap neg_ℤ (pos-*ℤ-pos g (suc n / g)) ∙ ap (λ k. neg_ℤ (pos k)) (let e = divided_back g (suc n) d in let f : g * (suc n / g) ≡ suc n = omega arith in f))

pub exact_neg : (z : ℤ) (g : ℕ) → 0 < g → g ∣ unsigned_abs z → neg_ℤ (pos g) *ℤ int_div z (neg_ℤ (pos g)) ≡ z
exact_neg (pos n) zero h d = absurd (omega arith)
exact_neg (pos n) (suc g) h d =
    let q = int_div (pos n) (pos (suc g)) in
    let e = exact (pos n) (suc g) h d in
    let a = neg_mul (pos (suc g)) (neg_ℤ q) in
    let b = mul_neg (pos (suc g)) q in
    omega (arith, ints)
exact_neg (negsuc n) zero h d = absurd (omega arith)
exact_neg (negsuc n) (suc g) h d =
    ap (λ k. neg_ℤ (pos k)) (let e = divided_back (suc g) (suc n) d in let f : suc g * (suc n / suc g) ≡ suc n = omega arith in f)

module _ (u : Valuation) (d : ℤ) (g : ℕ) (ex : (z : ℤ) → g ∣ unsigned_abs z → d *ℤ int_div z d ≡ z) where
  sum_divided : (n : ℕ) (ps : List (ℕ × ℤ)) → g ∣ joint_gcd n ps → (d *ℤ sum_of u.number (divided_pairs d ps) ≡ sum_of u.number ps) × (g ∣ n)
  sum_divided n [] h = (mul_zero d, h)
  sum_divided n (p ∷ ps) h =
      let i = gcd_is (unsigned_abs p.1) n in
      let k = sum_divided (gcd (unsigned_abs p.1) n) ps h in
      let e = ex p.1 (dvd_trans g k.1 i.0) in
      let f : (d *ℤ int_div p.1 d) *ℤ u.number p.0 ≡ p.1 *ℤ u.number p.0 = ap (λ z. z *ℤ u.number p.0) e in
      let a = mul_assoc_ℤ d (int_div p.1 d) (u.number p.0) in
      let b = mul_add_ℤ d (int_div p.1 d *ℤ u.number p.0) (sum_of u.number (divided_pairs d ps)) in
      (b ∙ omega (arith, ints, k.0), dvd_trans g k.1 i.1)

  pub value_divided : (r : Row) → g ∣ row_gcd r → d *ℤ row_value u (divided d r) ≡ row_value u r
  value_divided r h =
      let k = sum_divided (unsigned_abs r.constant) r.pairs h in
      let e = ex r.constant k.1 in
      let f : (d *ℤ int_div r.constant d) *ℤ pos u.whole ≡ r.constant *ℤ pos u.whole = ap (λ z. z *ℤ pos u.whole) e in
      let a = mul_assoc_ℤ d (int_div r.constant d) (pos u.whole) in
      let b = mul_add_ℤ d (sum_of u.number (divided_pairs d r.pairs)) (int_div r.constant d *ℤ pos u.whole) in
      b ∙ omega (arith, ints, k.0)

-- ---- the same solutions
abbrev pub Same : Rel → ℤ → ℤ → Type 0
Same rel y z = Compares rel y ↔ Compares rel z

pub scaled_same : (rel : Rel) (g : ℕ) (y z : ℤ) → 0 < g → pos g *ℤ y ≡ z → Same rel y z
scaled_same rel g y z h e =
    (λ c. subst (Compares rel) e (compares_mul rel g y h c), λ c. compares_back rel g y h (subst (Compares rel) (sym e) c))

flipped_same : (g : ℕ) (y z : ℤ) → 0 < g → neg_ℤ (pos g) *ℤ y ≡ z → Same Eq y z
flipped_same g y z h e =
    let a = neg_mul (pos g) y in (
      λ c. sym e ∙ (ap (λ k. neg_ℤ (pos g) *ℤ k) c ∙ mul_zero (neg_ℤ (pos g))),
      λ c. compares_back Eq g y h (omega (arith, ints)),
    )

divided_holds : (u : Valuation) (r : Row) (g : ℕ) → 0 < g → g ∣ row_gcd r → RowHolds u (divided (divisor_of (is_flipped r.rel r.pairs) g) r) ↔ RowHolds u r
divided_holds u r g h d = by r.rel (first_is_negative r.pairs) refl
  where
    value_plain : pos g *ℤ row_value u (divided (pos g) r) ≡ row_value u r
    value_plain = value_divided u (pos g) g (λ z. exact z g h) r d

    value_flipped : neg_ℤ (pos g) *ℤ row_value u (divided (neg_ℤ (pos g)) r) ≡ row_value u r
    value_flipped = value_divided u (neg_ℤ (pos g)) g (λ z. exact_neg z g h) r d

    by : (rel : Rel) (b : Bool) → first_is_negative r.pairs ≡ b → Same rel (row_value u (divided (divisor_of (is_flipped rel r.pairs) g) r)) (row_value u r)
    by Eq true e = subst (λ t. Same Eq (row_value u (divided (divisor_of t g) r)) (row_value u r)) (sym e) (flipped_same g _ _ h value_flipped)
    by Eq false e = subst (λ t. Same Eq (row_value u (divided (divisor_of t g) r)) (row_value u r)) (sym e) (scaled_same Eq g _ _ h value_plain)
    by Le b e = scaled_same Le g _ _ h value_plain
    by Lt b e = scaled_same Lt g _ _ h value_plain

pub max_divides : (g : ℕ) → max 1 g ∣ g
max_divides zero = let e : max 1 zero ≡ 1 = omega arith in subst (λ n. n ∣ 0) (sym e) (dvd-zero 1)
max_divides (suc g) = let e : max 1 (suc g) ≡ suc g = omega arith in subst (λ n. n ∣ suc g) (sym e) (dvd_refl (suc g))

pub normal_holds : (u : Valuation) (r : Row) → RowHolds u (normal r) ↔ RowHolds u r
normal_holds u r = divided_holds u r (max 1 (row_gcd r)) (omega arith) (max_divides (row_gcd r))
