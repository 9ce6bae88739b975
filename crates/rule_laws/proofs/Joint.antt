-- One valuation for the variables of two clauses, those of the second past those of the first.
use Rattle.std.proofs.Common.{◌≡◌, ◌↔◌, ℕ, ◌+◌, ◌*◌, ◌-◌, ◌<◌, ◌≤◌, List, [], ◌∷◌, Bool, true, false, arith, refl, sym, ◌∙◌, ap, subst, map}
use Rattle.std.specs.Prelude.{nat_le, if◌then◌else◌}
use Rattle.std.proofs.lemmas.Bool.{le-leb, leb-true}
use Rattle.std.proofs.Math.IntN.{ℤ, pos, ◌+ℤ◌, ◌*ℤ◌, *ℤ_comm, pos-*ℤ-pos}
use Rattle.std.proofs.lemmas.Int.{ints}
use Rattle.std.proofs.Math.Nat.{mul_comm}
use Rattle.clp_rationals.proofs.Whole.{mul_add_ℤ, mul_assoc_ℤ}
use Rattle.clp_model.specs.declared.sort.Sort.{Sort}
use Rattle.clp_model.specs.declared.sort.Sort.TheVariants.{Any, Num}
use Rattle.clp_model.specs.Values.{Valuation, variable_value}
use Rattle.clp_model.specs.Clauses.{Row, RowHolds, Compares, sum_of}
use Rattle.clp_model.proofs.Membership.{Among, first, next}
use Rattle.linear_model.specs.Changes.{renamed}
use Rattle.linear_laws.proofs.Refining.{positive_product}
use Rattle.linear_laws.proofs.Valuations.{compares_mul, compares_back}
use Rattle.unify_laws.proofs.Scaling.{same_value}
use Rattle.clause_model.specs.Variables.{row_variables}
use Rattle.clause_laws.proofs.Rows.{renamed_holds}
use Rattle.unfold_model.specs.Resolvent.{past}

-- ---- a row under a valuation over m times the denominator
scaled_sum : (m : ℕ) (g h : ℕ → ℤ) (ps : List (ℕ × ℤ)) → ((n : ℕ) → Among n (map (λ p. p.0) ps) → g n ≡ h n *ℤ pos m) → sum_of g ps ≡ pos m *ℤ sum_of h ps
scaled_sum m g h [] same = let z = *ℤ_comm (pos m) (pos 0) in sym (z ∙ zero_times m)
  where
    zero_times : (m : ℕ) → pos 0 *ℤ pos m ≡ pos 0
    zero_times m = omega (arith, ints)
scaled_sum m g h (p ∷ ps) same =
    let a : p.1 *ℤ g p.0 ≡ pos m *ℤ (p.1 *ℤ h p.0) =
    ap (λ z. p.1 *ℤ z) (same p.0 first) ∙ (sym (mul_assoc_ℤ p.1 (h p.0) (pos m)) ∙ *ℤ_comm (p.1 *ℤ h p.0) (pos m)) in
    let b = scaled_sum m g h ps (λ n k. same n (next k)) in
    let c = mul_add_ℤ (pos m) (p.1 *ℤ h p.0) (sum_of h ps) in
    omega (arith, ints)

pub scaled_row : (m : ℕ) → 0 < m → (v w : Valuation) (r : Row) → v.whole ≡ w.whole * m → ((n : ℕ) → Among n (row_variables r) → v.number n ≡ w.number n *ℤ pos m) → RowHolds v r ↔ RowHolds w r
scaled_row m up v w r whole numbers =
    let a = scaled_sum m v.number w.number r.pairs numbers in
    let b : r.constant *ℤ pos v.whole ≡ pos m *ℤ (r.constant *ℤ pos w.whole) =
    ap (λ d. r.constant *ℤ pos d) whole ∙ (ap (λ z. r.constant *ℤ z) (sym (pos-*ℤ-pos w.whole m)) ∙ (sym (mul_assoc_ℤ r.constant (pos w.whole) (pos m)) ∙ *ℤ_comm (r.constant *ℤ pos w.whole) (pos m))) in
    let c = mul_add_ℤ (pos m) (sum_of w.number r.pairs) (r.constant *ℤ pos w.whole) in
    let e : sum_of v.number r.pairs +ℤ r.constant *ℤ pos v.whole ≡ pos m *ℤ (sum_of w.number r.pairs +ℤ r.constant *ℤ pos w.whole) = omega (arith, ints) in (
      (λ h. compares_back r.rel m (sum_of w.number r.pairs +ℤ r.constant *ℤ pos w.whole) up (subst (Compares r.rel) e h)),
      (λ h. subst (Compares r.rel) (sym e) (compares_mul r.rel m (sum_of w.number r.pairs +ℤ r.constant *ℤ pos w.whole) up h)),
    )

-- ---- both valuations over the product of their denominators
module _ (k : ℕ) (u w : Valuation) where
  abbrev pub joint : Valuation
  joint = record {
    whole = u.whole * w.whole;
    positive = positive_product u.whole w.whole u.positive w.positive;
    number = λ n. if nat_le n k then u.number n *ℤ pos w.whole else w.number (n - k) *ℤ pos u.whole;
    value = λ n. if nat_le n k then u.value n else w.value (n - k);
  }

  below : (n : ℕ) → n ≤ k → nat_le n k ≡ true
  below n l = le-leb n k l

  above : (n : ℕ) → 0 < n → nat_le (past k n) k ≡ false
  above n l = by (nat_le (k + n) k) refl
    where
      by : (b : Bool) → nat_le (k + n) k ≡ b → b ≡ false
      by false e = refl
      by true e = let h = leb-true (k + n) k e in absurd (omega arith)

  back : (n : ℕ) → past k n - k ≡ n
  back n = omega arith

  first_number : (n : ℕ) → n ≤ k → joint.number n ≡ u.number n *ℤ pos w.whole
  first_number n l = ap (λ b. if b then u.number n *ℤ pos w.whole else w.number (n - k) *ℤ pos u.whole) (below n l)

  second_number : (n : ℕ) → 0 < n → joint.number (past k n) ≡ w.number n *ℤ pos u.whole
  second_number n l =
      ap (λ b. if b then u.number (past k n) *ℤ pos w.whole else w.number (past k n - k) *ℤ pos u.whole) (above n l)
      ∙ ap (λ m. w.number m *ℤ pos u.whole) (back n)

  -- each variable of the first clause has its value, and each of the second one its own
  pub first_value : (n : ℕ) (s : Sort) → n ≤ k → variable_value joint n s ≡ variable_value u n s
  first_value n Any l = ap (λ b. if b then u.value n else w.value (n - k)) (below n l)
  first_value n Num l =
      same_value (joint.number n) (u.number n) (u.whole * w.whole) u.whole joint.positive u.positive
      (ap (λ z. z *ℤ pos u.whole) (first_number n l)
      ∙ (mul_assoc_ℤ (u.number n) (pos w.whole) (pos u.whole)
      ∙ ap (λ z. u.number n *ℤ z) (*ℤ_comm (pos w.whole) (pos u.whole) ∙ pos-*ℤ-pos u.whole w.whole)))

  pub second_value : (n : ℕ) (s : Sort) → 0 < n → variable_value joint (past k n) s ≡ variable_value w n s
  second_value n Any l = ap (λ b. if b then u.value (past k n) else w.value (past k n - k)) (above n l) ∙ ap w.value (back n)
  second_value n Num l =
      same_value (joint.number (past k n)) (w.number n) (u.whole * w.whole) w.whole joint.positive w.positive
      (ap (λ z. z *ℤ pos w.whole) (second_number n l)
      ∙ (mul_assoc_ℤ (w.number n) (pos u.whole) (pos w.whole)
      ∙ ap (λ z. w.number n *ℤ z) (pos-*ℤ-pos u.whole w.whole)))

  pub first_row : (r : Row) → ((n : ℕ) → Among n (row_variables r) → n ≤ k) → RowHolds joint r ↔ RowHolds u r
  first_row r within = scaled_row w.whole w.positive joint u r refl (λ n a. first_number n (within n a))

  abbrev beyond : Valuation
  beyond = record { whole = u.whole * w.whole; positive = joint.positive; number = λ n. joint.number (past k n); value = λ n. joint.value (past k n) }

  pub second_row : (r : Row) → ((n : ℕ) → Among n (row_variables r) → 0 < n) → RowHolds joint (renamed (past k) r) ↔ RowHolds w r
  second_row r within =
      let a = renamed_holds (past k) joint beyond r refl (λ n m. refl) in
      let b = scaled_row u.whole u.positive beyond w r (let e : u.whole * w.whole ≡ w.whole * u.whole = mul_comm u.whole w.whole in e) (λ n m. second_number n (within n m)) in
      ((λ h. b.0 (a.0 h)), (λ h. a.1 (b.1 h)))
