-- A certificate is right.
use Rattle.std.proofs.Common.{◌≡◌, ℕ, zero, suc, List, [], ◌∷◌, ◌⊎◌, inl, inr, arith, refl, sym, ◌∙◌, ap, subst}
use Rattle.std.specs.List.{AllByRecursion}
use Rattle.std.proofs.Math.IntN.{ℤ, pos, negsuc, neg_ℤ, ◌+ℤ◌, ◌*ℤ◌, zero-*ℤ, *ℤ_comm}
use Rattle.std.specs.Int.Signed.{◌<ℤ◌, ◌≤ℤ◌}
use Rattle.std.proofs.lemmas.Int.{ints}
use Rattle.std.proofs.lemmas.List.Elements.{recursion_from_All}
use Rattle.clp_rationals.proofs.Whole.{mul_assoc_ℤ, mul_add_ℤ, neg_mul}
use Rattle.clp_model.specs.Values.{Valuation}
use Rattle.clp_model.specs.Clauses.{Row, RowHolds, Compares, sum_of}
use Rattle.clp_model.specs.declared.sort.Rel.{Rel}
use Rattle.clp_model.specs.declared.sort.Rel.TheVariants.{Eq, Le, Lt}
use Rattle.linear_model.specs.Forms.{coefficient, combined}
use Rattle.linear_model.specs.Certificates.{Entails, Unsatisfiable, Part, weighted_coefficient, weighted_constant, Allowed, StrictUsed, Shows, ShowsFalse}
use Rattle.linear_model.specs.Changes.{at_most, flipped}
use Rattle.linear_laws.specs.Laws.{EquationIsEntailed}
use Rattle.linear_laws.proofs.Opposite.{halves_hold}
use Rattle.linear_laws.proofs.Ring.{add_mul_ℤ, mul_zero, mul_below, mul_at_most, mul_above}
use Rattle.linear_laws.proofs.Sums.{sum_combined, coefficient_combined}
use Rattle.linear_laws.proofs.Vanishing.{vanishing}
use Rattle.linear_laws.proofs.Valuations.{row_value, compares_back}

-- the weighted sum as one form
abbrev weighted : List Row → List ℤ → List (ℕ × ℤ)
weighted [] ms = []
weighted (r ∷ rs) [] = []
weighted (r ∷ rs) (m ∷ ms) = combined m r.pairs (pos 1) (weighted rs ms)

one_times : (z : ℤ) → pos 1 *ℤ z ≡ z
one_times z = omega (arith, ints)

weighted_is : (rs : List Row) (ms : List ℤ) (v : ℕ) → coefficient (weighted rs ms) v ≡ weighted_coefficient rs ms v
weighted_is [] ms v = refl
weighted_is (r ∷ rs) [] v = refl
weighted_is (r ∷ rs) (m ∷ ms) v =
    let e = weighted_is rs ms v in
    let f = one_times (coefficient (weighted rs ms) v) in
    coefficient_combined v m r.pairs (pos 1) (weighted rs ms) ∙ omega (arith, ints)

-- the weighted sum of the rows' values
abbrev weighted_value : Valuation → List Row → List ℤ → ℤ
weighted_value u [] ms = pos 0
weighted_value u (r ∷ rs) [] = pos 0
weighted_value u (r ∷ rs) (m ∷ ms) = m *ℤ row_value u r +ℤ weighted_value u rs ms

value_is : (u : Valuation) (rs : List Row) (ms : List ℤ) → weighted_value u rs ms ≡ sum_of u.number (weighted rs ms) +ℤ weighted_constant rs ms *ℤ pos u.whole
value_is u [] ms = let e = zero-*ℤ (pos u.whole) in omega (arith, ints)
value_is u (r ∷ rs) [] = let e = zero-*ℤ (pos u.whole) in omega (arith, ints)
value_is u (r ∷ rs) (m ∷ ms) =
    let d = pos u.whole in
    let a = value_is u rs ms in
    let b = sum_combined u.number m r.pairs (pos 1) (weighted rs ms) in
    let c = one_times (sum_of u.number (weighted rs ms)) in
    let e = add_mul_ℤ (m *ℤ r.constant) (weighted_constant rs ms) d in
    let f = mul_assoc_ℤ m r.constant d in
    let g = mul_add_ℤ m (sum_of u.number r.pairs) (r.constant *ℤ d) in
    omega (arith, ints)

-- ---- the sign of the weighted sum where the rows hold
term_at_most : (rel : Rel) (m z : ℤ) → (rel ≡ Eq) ⊎ (pos 0 ≤ℤ m) → Compares rel z → (m *ℤ z) ≤ℤ pos 0
term_at_most Eq m z a h = let e : m *ℤ z ≡ pos 0 = ap (λ y. m *ℤ y) h ∙ mul_zero m in omega (arith, ints)
term_at_most Le m z (inl e) h = cc
term_at_most Lt m z (inl e) h = cc
term_at_most Le (pos m) z (inr p) h = mul_at_most m z h
term_at_most Lt (pos m) z (inr p) h = mul_at_most m z (omega (arith, ints))
term_at_most Le (negsuc m) z (inr p) h = absurd (omega (arith, ints))
term_at_most Lt (negsuc m) z (inr p) h = absurd (omega (arith, ints))

pub term_below : (rel : Rel) (m z : ℤ) → (rel ≡ Lt) → pos 0 <ℤ m → Compares rel z → (m *ℤ z) <ℤ pos 0
term_below Eq m z e p h = cc
term_below Le m z e p h = cc
term_below Lt (pos m) z e p h = mul_below m z (omega (arith, ints)) h
term_below Lt (negsuc m) z e p h = absurd (omega (arith, ints))

most : (u : Valuation) (rs : List Row) (ms : List ℤ) → AllByRecursion (RowHolds u) rs → Allowed rs ms → weighted_value u rs ms ≤ℤ pos 0
most u [] ms h a = omega (arith, ints)
most u (r ∷ rs) [] h a = omega (arith, ints)
most u (r ∷ rs) (m ∷ ms) h a =
    let e = term_at_most r.rel m (row_value u r) a.0 h.0 in
    let f = most u rs ms h.1 a.1 in
    omega (arith, ints)

below : (u : Valuation) (rs : List Row) (ms : List ℤ) → AllByRecursion (RowHolds u) rs → Allowed rs ms → StrictUsed rs ms → weighted_value u rs ms <ℤ pos 0
below u [] ms h a s = absurd s
below u (r ∷ rs) [] h a s = absurd s
below u (r ∷ rs) (m ∷ ms) h a (inl s) =
    let e = term_below r.rel m (row_value u r) s.0 s.1 h.0 in
    let f = most u rs ms h.1 a.1 in
    omega (arith, ints)
below u (r ∷ rs) (m ∷ ms) h a (inr s) =
    let e = term_at_most r.rel m (row_value u r) a.0 h.0 in
    let f = below u rs ms h.1 a.1 s in
    omega (arith, ints)

-- ---- a part shows
times_positive : (u : Valuation) (c : ℤ) → pos 0 <ℤ c → pos 0 <ℤ (c *ℤ pos u.whole)
times_positive u c h = subst (λ z. pos 0 <ℤ z) (*ℤ_comm (pos u.whole) c) (mul_above u.whole c u.positive h)

module _ (u : Valuation) (rows : List Row) (target : Row) (part : Part) (s : Shows rows target part) (h : AllByRecursion (RowHolds u) rows) where
  -- the weighted value is k times the target's value and c times the denominator
  parts : weighted_value u rows part.m ≡ part.k *ℤ row_value u target +ℤ s.c *ℤ pos u.whole
  parts =
      let d = pos u.whole in
      let form = combined (pos 1) (weighted rows part.m) (neg_ℤ part.k) target.pairs in
      let zero_form : (v : ℕ) → coefficient form v ≡ pos 0 = λ v.
      let a = coefficient_combined v (pos 1) (weighted rows part.m) (neg_ℤ part.k) target.pairs in
      let b = one_times (coefficient (weighted rows part.m) v) in
      let c = weighted_is rows part.m v in
      let e = s.cancels v in
      let f = neg_mul part.k (coefficient target.pairs v) in
      a ∙ omega (arith, ints) in
      let n = vanishing u.number form zero_form in
      let a = sum_combined u.number (pos 1) (weighted rows part.m) (neg_ℤ part.k) target.pairs in
      let b = one_times (sum_of u.number (weighted rows part.m)) in
      let f = neg_mul part.k (sum_of u.number target.pairs) in
      let v = value_is u rows part.m in
      let c : weighted_constant rows part.m *ℤ d ≡ (part.k *ℤ target.constant +ℤ s.c) *ℤ d = ap (λ z. z *ℤ d) s.constant in
      let e = add_mul_ℤ (part.k *ℤ target.constant) s.c d in
      let i = mul_assoc_ℤ part.k target.constant d in
      let j = mul_add_ℤ part.k (sum_of u.number target.pairs) (target.constant *ℤ d) in
      v ∙ omega (arith, ints)

  -- k times the target's value is below 0, or the target is `=<`, k is positive, and it is at most 0
  result : ((part.k *ℤ row_value u target) <ℤ pos 0) ⊎ ((target.rel ≡ Le) × (pos 0 <ℤ part.k) × ((part.k *ℤ row_value u target) ≤ℤ pos 0))
  result = elim s.enough [
    | inl g ↦
        let a = times_positive u s.c g in
        let b = most u rows part.m h s.allowed in
        let p = parts in inl (omega (arith, ints))
    | inr (inl e) ↦
        let a : s.c *ℤ pos u.whole ≡ pos 0 = ap (λ z. z *ℤ pos u.whole) e.0 ∙ zero-*ℤ (pos u.whole) in
        let b = below u rows part.m h s.allowed e.1 in
        let p = parts in inl (omega (arith, ints))
    | inr (inr e) ↦
        let a : s.c *ℤ pos u.whole ≡ pos 0 = ap (λ z. z *ℤ pos u.whole) e.0 ∙ zero-*ℤ (pos u.whole) in
        let b = most u rows part.m h s.allowed in
        let p = parts in inr (e.1, e.2, omega (arith, ints))
  ]

below_back : (k : ℤ) (z : ℤ) → pos 0 ≤ℤ k → (k *ℤ z) <ℤ pos 0 → z <ℤ pos 0
below_back (pos zero) z n h = let e = zero-*ℤ z in absurd (omega (arith, ints))
below_back (pos (suc k)) z n h = compares_back Lt (suc k) z (omega arith) h
below_back (negsuc k) z n h = absurd (omega (arith, ints))

at_most_back : (k : ℤ) (z : ℤ) → pos 0 <ℤ k → (k *ℤ z) ≤ℤ pos 0 → z ≤ℤ pos 0
at_most_back (pos zero) z n h = absurd (omega (arith, ints))
at_most_back (pos (suc k)) z n h = compares_back Le (suc k) z (omega arith) h
at_most_back (negsuc k) z n h = absurd (omega (arith, ints))

below_shows : (rel : Rel) (z : ℤ) → ¬ (rel ≡ Eq) → z <ℤ pos 0 → Compares rel z
below_shows Eq z n h = absurd (n refl)
below_shows Le z n h = omega (arith, ints)
below_shows Lt z n h = h

pub shown_is_entailed : (rows : List Row) (target : Row) (part : Part) → ¬ (target.rel ≡ Eq) → Shows rows target part → Entails rows target
shown_is_entailed rows target part n s u h =
    let v = row_value u target in
    elim (result u rows target part s (recursion_from_All (RowHolds u) rows h)) [
      | inl b ↦ below_shows target.rel v n (below_back part.k v s.not_negative b)
      | inr e ↦ subst (λ rel. Compares rel v) (sym e.0) (at_most_back part.k v e.1 e.2)
    ]

pub shown_false : (rows : List Row) (part : Part) → ShowsFalse rows part → Unsatisfiable rows
shown_false rows part s u h =
    let target : Row = record { rel = Lt; pairs = []; constant = pos 0 } in
    let zero_part : Part = record { k = pos 0; m = part.m } in
    let shows : Shows rows target zero_part = record {
      allowed = s.allowed;
      not_negative = omega (arith, ints);
      cancels = λ v. s.cancels v;
      c = weighted_constant rows part.m;
      constant = omega (arith, ints);
      enough = elim s.enough [ inl g ↦ inl g | inr e ↦ inr (inl e) ];
    } in
    elim (result u rows target zero_part shows (recursion_from_All (RowHolds u) rows h)) [
      | inl b ↦ let e = zero-*ℤ (row_value u target) in absurd (omega (arith, ints))
      | inr e ↦ absurd (omega (arith, ints, e.1))
    ]

-- an equation by its two halves
pub equation_is_entailed : EquationIsEntailed
equation_is_entailed rows target p q e s t u h =
    (halves_hold u target e).1
    (shown_is_entailed rows (at_most target) p (λ i. cc) s u h, shown_is_entailed rows (at_most (flipped target)) q (λ i. cc) t u h)
