-- How the value of a row changes with the valuation.
use Rattle.std.proofs.Common.{◌≡◌, ℕ, ◌<◌, List, [], ◌∷◌, Bool, true, false, inl, inr, eq-eqb, arith, refl, sym, ◌∙◌, ap, subst}
use Rattle.std.specs.Prelude.{nat_eq, ◌↔◌, if◌then◌else◌}
use Rattle.std.proofs.Math.IntN.{ℤ, pos, neg_ℤ, ◌+ℤ◌, ◌*ℤ◌, *ℤ_comm, zero-*ℤ}
use Rattle.std.proofs.lemmas.Int.{ints}
use Rattle.std.proofs.lemmas.Bool.{eqb-true}
use Rattle.clp_rationals.proofs.Whole.{mul_assoc_ℤ, mul_add_ℤ}
use Rattle.clp_rationals.proofs.Lowest.{cancel_ℤ}
use Rattle.clp_model.specs.Values.{Valuation}
use Rattle.clp_model.specs.Clauses.{Row, RowHolds, Compares, sum_of}
use Rattle.clp_model.specs.declared.sort.Rel.{Rel}
use Rattle.clp_model.specs.declared.sort.Rel.TheVariants.{Eq, Le, Lt}
use Rattle.linear_model.specs.Forms.{coefficient, combination}
use Rattle.linear_model.specs.Elimination.{SameBut}
use Rattle.linear_laws.proofs.Ring.{add_mul_ℤ, mul_zero, mul_below, mul_at_most, mul_above, one_of_three}
use Rattle.linear_laws.proofs.Sums.{sum_combined}

abbrev pub row_value : Valuation → Row → ℤ
row_value u r = sum_of u.number r.pairs +ℤ r.constant *ℤ pos u.whole

pub value_combined : (u : Valuation) (rel : Rel) (a : ℤ) (r : Row) (b : ℤ) (s : Row)
    → row_value u (combination rel a r b s) ≡ a *ℤ row_value u r +ℤ b *ℤ row_value u s
value_combined u rel a r b s =
    let d = pos u.whole in
    let e = sum_combined u.number a r.pairs b s.pairs in
    let f = add_mul_ℤ (a *ℤ r.constant) (b *ℤ s.constant) d in
    let g = mul_assoc_ℤ a r.constant d in
    let h = mul_assoc_ℤ b s.constant d in
    let i = mul_add_ℤ a (sum_of u.number r.pairs) (r.constant *ℤ d) in
    let j = mul_add_ℤ b (sum_of u.number s.pairs) (s.constant *ℤ d) in
    omega (arith, ints)

-- ---- comparing with 0
pub compares_mul : (rel : Rel) (k : ℕ) (z : ℤ) → 0 < k → Compares rel z → Compares rel (pos k *ℤ z)
compares_mul Eq k z h e = ap (λ y. pos k *ℤ y) e ∙ mul_zero (pos k)
compares_mul Le k z h l = mul_at_most k z l
compares_mul Lt k z h l = mul_below k z h l

pub compares_back : (rel : Rel) (k : ℕ) (z : ℤ) → 0 < k → Compares rel (pos k *ℤ z) → Compares rel z
compares_back Eq k z h e = cancel_ℤ z (pos 0) k h (*ℤ_comm z (pos k) ∙ (e ∙ sym (zero-*ℤ (pos k))))
compares_back Le k z h l = elim (one_of_three z) [
  | inl a ↦ omega (arith, ints)
  | inr (inl b) ↦ omega (arith, ints)
  | inr (inr c) ↦ let d = mul_above k z h c in absurd (omega (arith, ints))
]
compares_back Lt k z h l = elim (one_of_three z) [
  | inl a ↦ a
  | inr (inl b) ↦ let d : pos k *ℤ z ≡ pos 0 = ap (λ y. pos k *ℤ y) b ∙ mul_zero (pos k) in absurd (omega (arith, ints))
  | inr (inr c) ↦ let d = mul_above k z h c in absurd (omega (arith, ints))
]

different : (m n : ℕ) → nat_eq m n ≡ false → ¬ (m ≡ n)
different m n e h = let k = eq-eqb m n h in cc

zero_and : (z : ℤ) → pos 0 +ℤ z ≡ z
zero_and z = omega (arith, ints)

shown_at : (s c d e : ℤ) → (s +ℤ c *ℤ d) *ℤ e ≡ s *ℤ e +ℤ c *ℤ (d *ℤ e)
shown_at s c d e = add_mul_ℤ s (c *ℤ d) e ∙ ap (λ z. s *ℤ e +ℤ z) (mul_assoc_ℤ c d e)

-- ---- two valuations that agree but at x
module _ (x : ℕ) (u w : Valuation) (same : SameBut x u w) where
  sum_without : (t : ℤ) → w.number x *ℤ pos u.whole ≡ t +ℤ u.number x *ℤ pos w.whole → (ps : List (ℕ × ℤ))
      → sum_of w.number ps *ℤ pos u.whole ≡ coefficient ps x *ℤ t +ℤ sum_of u.number ps *ℤ pos w.whole
  sum_without t h [] =
      let a = zero-*ℤ (pos u.whole) in
      let b = zero-*ℤ (pos w.whole) in
      let c = zero-*ℤ t in omega (arith, ints)
  sum_without t h (p ∷ ps) = by (sum_without t h ps) (nat_eq p.0 x) refl
    where
      a : (p.1 *ℤ w.number p.0 +ℤ sum_of w.number ps) *ℤ pos u.whole ≡ p.1 *ℤ (w.number p.0 *ℤ pos u.whole) +ℤ sum_of w.number ps *ℤ pos u.whole
      a = add_mul_ℤ (p.1 *ℤ w.number p.0) (sum_of w.number ps) (pos u.whole) ∙ ap (λ z. z +ℤ sum_of w.number ps *ℤ pos u.whole) (mul_assoc_ℤ p.1 (w.number p.0) (pos u.whole))

      b : (p.1 *ℤ u.number p.0 +ℤ sum_of u.number ps) *ℤ pos w.whole ≡ p.1 *ℤ (u.number p.0 *ℤ pos w.whole) +ℤ sum_of u.number ps *ℤ pos w.whole
      b = add_mul_ℤ (p.1 *ℤ u.number p.0) (sum_of u.number ps) (pos w.whole) ∙ ap (λ z. z +ℤ sum_of u.number ps *ℤ pos w.whole) (mul_assoc_ℤ p.1 (u.number p.0) (pos w.whole))

      by : sum_of w.number ps *ℤ pos u.whole ≡ coefficient ps x *ℤ t +ℤ sum_of u.number ps *ℤ pos w.whole
          → (b : Bool) → nat_eq p.0 x ≡ b
          → (p.1 *ℤ w.number p.0 +ℤ sum_of w.number ps) *ℤ pos u.whole ≡ ((if b then p.1 else pos 0) +ℤ coefficient ps x) *ℤ t +ℤ (p.1 *ℤ u.number p.0 +ℤ sum_of u.number ps) *ℤ pos w.whole
      by ih true e =
          let i : w.number p.0 *ℤ pos u.whole ≡ t +ℤ u.number p.0 *ℤ pos w.whole = subst (λ v. w.number v *ℤ pos u.whole ≡ t +ℤ u.number v *ℤ pos w.whole) (sym (eqb-true p.0 x e)) h in
          let j = ap (λ z. p.1 *ℤ z) i in
          let k = mul_add_ℤ p.1 t (u.number p.0 *ℤ pos w.whole) in
          let l = add_mul_ℤ p.1 (coefficient ps x) t in
          a ∙ omega (arith, ints, b)
      by ih false e =
          let j = ap (λ z. p.1 *ℤ z) (same.numbers p.0 (different p.0 x e)) in
          let k : (pos 0 +ℤ coefficient ps x) *ℤ t ≡ coefficient ps x *ℤ t = ap (λ z. z *ℤ t) (zero_and (coefficient ps x)) in
          a ∙ omega (arith, ints, b)

  -- a row without x has the same value, up to the denominators
  pub value_without : (r : Row) → coefficient r.pairs x ≡ pos 0 → pos u.whole *ℤ row_value w r ≡ pos w.whole *ℤ row_value u r
  value_without r e =
      let t : ℤ = w.number x *ℤ pos u.whole +ℤ neg_ℤ (u.number x *ℤ pos w.whole) in
      let h = sum_without t (omega (arith, ints)) r.pairs in
      let z : coefficient r.pairs x *ℤ t ≡ pos 0 = ap (λ y. y *ℤ t) e ∙ zero-*ℤ t in
      let a = shown_at (sum_of w.number r.pairs) r.constant (pos w.whole) (pos u.whole) in
      let b = shown_at (sum_of u.number r.pairs) r.constant (pos u.whole) (pos w.whole) in
      let c : r.constant *ℤ (pos w.whole *ℤ pos u.whole) ≡ r.constant *ℤ (pos u.whole *ℤ pos w.whole) = ap (λ y. r.constant *ℤ y) (*ℤ_comm (pos w.whole) (pos u.whole)) in
      let i : row_value w r *ℤ pos u.whole ≡ row_value u r *ℤ pos w.whole = omega (arith, ints) in
      *ℤ_comm (pos u.whole) (row_value w r) ∙ (i ∙ *ℤ_comm (row_value u r) (pos w.whole))

  pub holds_without : (r : Row) → coefficient r.pairs x ≡ pos 0 → RowHolds u r ↔ RowHolds w r
  holds_without r e =
      let v = value_without r e in (
        λ h. compares_back r.rel u.whole (row_value w r) u.positive (subst (Compares r.rel) (sym v) (compares_mul r.rel w.whole (row_value u r) w.positive h)),
        λ h. compares_back r.rel w.whole (row_value u r) w.positive (subst (Compares r.rel) v (compares_mul r.rel u.whole (row_value w r) u.positive h)),
      )
