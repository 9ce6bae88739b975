-- A valuation over a greater denominator with another value of x.
use Rattle.std.proofs.Common.{◌≡◌, ℕ, zero, suc, ◌*◌, ◌<◌, List, [], ◌∷◌, Bool, true, false, arith, refl, sym, ◌∙◌, ap}
use Rattle.std.specs.Prelude.{nat_eq, if◌then◌else◌}
use Rattle.std.proofs.Math.IntN.{ℤ, pos, ◌+ℤ◌, ◌*ℤ◌, pos-*ℤ-pos, zero-*ℤ}
use Rattle.std.proofs.lemmas.Int.{ints}
use Rattle.std.proofs.lemmas.Bool.{eqb-true}
use Rattle.clp_rationals.proofs.Whole.{mul_assoc_ℤ, mul_add_ℤ}
use Rattle.clp_model.specs.Values.{Valuation}
use Rattle.clp_model.specs.Clauses.{Row, sum_of}
use Rattle.linear_model.specs.Forms.{coefficient}
use Rattle.linear_model.specs.Elimination.{SameBut}
use Rattle.linear_laws.proofs.Ring.{add_mul_ℤ, mul_zero, swap_first}
use Rattle.linear_laws.proofs.Valuations.{row_value}

pub positive_product : (m n : ℕ) → 0 < m → 0 < n → 0 < m * n
positive_product (suc m) (suc n) h k = omega arith
positive_product zero n h k = absurd (omega arith)
positive_product (suc m) zero h k = absurd (omega arith)

-- k times as large a denominator, and x becomes y over it
abbrev pub refined : Valuation → (k : ℕ) → 0 < k → ℕ → ℤ → Valuation
refined u k h x y =
    record {
      whole = k * u.whole;
      positive = positive_product k u.whole h u.positive;
      number = λ v. if nat_eq v x then y else pos k *ℤ u.number v;
      value = u.value;
    }

-- x becomes 0
abbrev pub zeroed : Valuation → ℕ → Valuation
zeroed u x = record { whole = u.whole; positive = u.positive; number = λ v. if nat_eq v x then pos 0 else u.number v; value = u.value }

pub refined_same : (u : Valuation) (k : ℕ) (h : 0 < k) (x : ℕ) (y : ℤ) → SameBut x u (refined u k h x y)
refined_same u k h x y = record { numbers = λ v other. by v (nat_eq v x) refl other; values = λ v. refl }
  where
    by : (v : ℕ) (b : Bool) → nat_eq v x ≡ b → ¬ (v ≡ x) → (if b then y else pos k *ℤ u.number v) *ℤ pos u.whole ≡ u.number v *ℤ pos (k * u.whole)
    by v true e other = absurd (other (eqb-true v x e))
    by v false e other =
        let a = ap (λ z. u.number v *ℤ z) (sym (pos-*ℤ-pos k u.whole)) in
        mul_assoc_ℤ (pos k) (u.number v) (pos u.whole) ∙ (swap_first (pos k) (u.number v) (pos u.whole) ∙ a)

pub zeroed_same : (u : Valuation) (x : ℕ) → SameBut x u (zeroed u x)
zeroed_same u x = record { numbers = λ v other. by v (nat_eq v x) refl other; values = λ v. refl }
  where
    by : (v : ℕ) (b : Bool) → nat_eq v x ≡ b → ¬ (v ≡ x) → (if b then pos 0 else u.number v) *ℤ pos u.whole ≡ u.number v *ℤ pos u.whole
    by v true e other = absurd (other (eqb-true v x e))
    by v false e other = refl

module _ (u : Valuation) (k : ℕ) (h : 0 < k) (x : ℕ) (y : ℤ) where
  sum_refined : (ps : List (ℕ × ℤ)) → sum_of (refined u k h x y).number ps ≡ coefficient ps x *ℤ y +ℤ pos k *ℤ sum_of (zeroed u x).number ps
  sum_refined [] = let a = zero-*ℤ y in let b = mul_zero (pos k) in omega (arith, ints)
  sum_refined (p ∷ ps) = by (sum_refined ps) (nat_eq p.0 x)
    where
      by : sum_of (refined u k h x y).number ps ≡ coefficient ps x *ℤ y +ℤ pos k *ℤ sum_of (zeroed u x).number ps
          → (b : Bool)
          → p.1 *ℤ (if b then y else pos k *ℤ u.number p.0) +ℤ sum_of (refined u k h x y).number ps
          ≡ ((if b then p.1 else pos 0) +ℤ coefficient ps x) *ℤ y +ℤ pos k *ℤ (p.1 *ℤ (if b then pos 0 else u.number p.0) +ℤ sum_of (zeroed u x).number ps)
      by ih true =
          let a = add_mul_ℤ p.1 (coefficient ps x) y in
          let b = mul_add_ℤ (pos k) (p.1 *ℤ pos 0) (sum_of (zeroed u x).number ps) in
          let c : pos k *ℤ (p.1 *ℤ pos 0) ≡ pos 0 = ap (λ z. pos k *ℤ z) (mul_zero p.1) ∙ mul_zero (pos k) in
          omega (arith, ints)
      by ih false =
          let a = add_mul_ℤ (pos 0) (coefficient ps x) y in
          let d = zero-*ℤ y in
          let b = mul_add_ℤ (pos k) (p.1 *ℤ u.number p.0) (sum_of (zeroed u x).number ps) in
          let c = swap_first p.1 (pos k) (u.number p.0) in
          omega (arith, ints)

  pub value_refined : (r : Row) → row_value (refined u k h x y) r ≡ coefficient r.pairs x *ℤ y +ℤ pos k *ℤ row_value (zeroed u x) r
  value_refined r =
      let a = sum_refined r.pairs in
      let b = ap (λ z. r.constant *ℤ z) (sym (pos-*ℤ-pos k u.whole)) in
      let c = swap_first r.constant (pos k) (pos u.whole) in
      let d = mul_add_ℤ (pos k) (sum_of (zeroed u x).number r.pairs) (r.constant *ℤ pos u.whole) in
      omega (arith, ints)
