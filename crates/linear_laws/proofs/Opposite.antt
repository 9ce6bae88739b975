-- The negation of a row, and the row of the opposite sum.
use Rattle.std.proofs.Common.{◌≡◌, ℕ, zero, suc, ◌<◌, ◌/◌, List, [], ◌∷◌, max, Bool, true, false, ◌&&◌, inl, inr, arith, refl, sym, ◌∙◌, ap, subst}
use Rattle.std.specs.Prelude.{nat_eq, nat_le, unsigned_abs, int_div, if◌then◌else◌, ◌↔◌}
use Rattle.std.proofs.Math.IntN.{ℤ, pos, negsuc, neg_ℤ, ◌+ℤ◌, neg_ℤ-neg_ℤ}
use Rattle.std.proofs.lemmas.Int.{ints}
use Rattle.std.proofs.lemmas.Bool.{eqb-true}
use Rattle.clp_rationals.proofs.Whole.{neg_mul}
use Rattle.clp_model.specs.Values.{Valuation}
use Rattle.clp_model.specs.Clauses.{Row, RowHolds, Compares, sum_of}
use Rattle.clp_model.specs.declared.sort.Rel.{Rel}
use Rattle.clp_model.specs.declared.sort.Rel.TheVariants.{Eq, Le, Lt}
use Rattle.linear_model.specs.Forms.{Above, IsRising, is_zero, coefficient}
use Rattle.linear_model.specs.Gcd.{gcd}
use Rattle.linear_model.specs.Normal.{joint_gcd, row_gcd, divided_pairs, divided, divisor_of, is_flipped, normal, IsNormal, limit, pairs_within, is_within}
use Rattle.linear_model.specs.Changes.{opposite_pairs, opposite_rel, negated, flipped, at_most}
use Rattle.linear_laws.specs.Laws.{EquationIsTwoHalves}
use Rattle.linear_laws.proofs.Normalized.{not_flipped}
use Rattle.linear_laws.proofs.Ring.{one_of_three}
use Rattle.linear_laws.proofs.Valuations.{row_value}

-- ---- the pairs
pub opposite_coefficient : (ps : List (ℕ × ℤ)) (v : ℕ) → coefficient (opposite_pairs ps) v ≡ neg_ℤ (coefficient ps v)
opposite_coefficient [] v = refl
opposite_coefficient (p ∷ ps) v = by (nat_eq p.0 v) (opposite_coefficient ps v)
  where
    by : (b : Bool) → coefficient (opposite_pairs ps) v ≡ neg_ℤ (coefficient ps v) → (if b then neg_ℤ p.1 else pos 0) +ℤ coefficient (opposite_pairs ps) v ≡ neg_ℤ ((if b then p.1 else pos 0) +ℤ coefficient ps v)
    by true ih = omega (arith, ints)
    by false ih = omega (arith, ints)

opposite_sum : (f : ℕ → ℤ) (ps : List (ℕ × ℤ)) → sum_of f (opposite_pairs ps) ≡ neg_ℤ (sum_of f ps)
opposite_sum f [] = refl
opposite_sum f (p ∷ ps) = let a = opposite_sum f ps in let b = neg_mul p.1 (f p.0) in omega (arith, ints)

suc_is_not_zero : (n : ℕ) → is_zero (pos (suc n)) ≡ false
suc_is_not_zero n = by (is_zero (pos (suc n))) refl
  where
    by : (b : Bool) → is_zero (pos (suc n)) ≡ b → is_zero (pos (suc n)) ≡ false
    by false e = e
    by true e = let k = eqb-true (suc n) 0 e in absurd (omega arith)

opposite_zero : (z : ℤ) → is_zero (neg_ℤ z) ≡ is_zero z
opposite_zero (pos zero) = refl
opposite_zero (pos (suc n)) = sym (suc_is_not_zero n)
opposite_zero (negsuc n) = suc_is_not_zero n

opposite_abs : (z : ℤ) → unsigned_abs (neg_ℤ z) ≡ unsigned_abs z
opposite_abs (pos zero) = refl
opposite_abs (pos (suc n)) = refl
opposite_abs (negsuc n) = refl

opposite_above : (n : ℕ) (ps : List (ℕ × ℤ)) → Above n ps → Above n (opposite_pairs ps)
opposite_above n [] a = tt
opposite_above n (p ∷ ps) a = (a.0, opposite_above n ps a.1)

pub rising_opposite : (ps : List (ℕ × ℤ)) → IsRising ps → IsRising (opposite_pairs ps)
rising_opposite [] r = tt
rising_opposite (p ∷ ps) r = (opposite_zero p.1 ∙ r.0, opposite_above p.0 ps r.1, rising_opposite ps r.2)

opposite_gcd : (n : ℕ) (ps : List (ℕ × ℤ)) → joint_gcd n (opposite_pairs ps) ≡ joint_gcd n ps
opposite_gcd n [] = refl
opposite_gcd n (p ∷ ps) = ap (λ k. joint_gcd (gcd k n) (opposite_pairs ps)) (opposite_abs p.1) ∙ opposite_gcd (gcd (unsigned_abs p.1) n) ps

opposite_pairs_within : (ps : List (ℕ × ℤ)) → pairs_within (opposite_pairs ps) ≡ pairs_within ps
opposite_pairs_within [] = refl
opposite_pairs_within (p ∷ ps) =
    ap (λ k. nat_le k limit && pairs_within (opposite_pairs ps)) (opposite_abs p.1)
    ∙ ap (λ b. nat_le (unsigned_abs p.1) limit && b) (opposite_pairs_within ps)

-- ---- solutions
value_negated : (u : Valuation) (r : Row) → row_value u (negated r) ≡ neg_ℤ (row_value u r)
value_negated u r = let a = opposite_sum u.number r.pairs in let b = neg_mul r.constant (pos u.whole) in omega (arith, ints)

value_flipped : (u : Valuation) (r : Row) → row_value u (flipped r) ≡ neg_ℤ (row_value u r)
value_flipped u r = value_negated u r

not_both : (rel : Rel) (z : ℤ) → ¬ (rel ≡ Eq) → Compares (opposite_rel rel) (neg_ℤ z) → Compares rel z → ⊥
not_both Eq z n h k = n refl
not_both Le z n h k = omega (arith, ints)
not_both Lt z n h k = omega (arith, ints)

either : (rel : Rel) (z : ℤ) → ¬ (rel ≡ Eq) → ¬ (Compares rel z) → Compares (opposite_rel rel) (neg_ℤ z)
either Eq z n h = absurd (n refl)
either Le z n h = elim (one_of_three z) [ inl l ↦ absurd (h (omega (arith, ints))) | inr (inl e) ↦ absurd (h (omega (arith, ints))) | inr (inr g) ↦ omega (arith, ints) ]
either Lt z n h = elim (one_of_three z) [ inl l ↦ absurd (h l) | inr (inl e) ↦ omega (arith, ints) | inr (inr g) ↦ omega (arith, ints) ]

pub negated_holds : (u : Valuation) (r : Row) → ¬ (r.rel ≡ Eq) → RowHolds u (negated r) ↔ (¬ RowHolds u r)
negated_holds u r n = (
  λ h k. not_both r.rel (row_value u r) n (subst (Compares (opposite_rel r.rel)) (value_negated u r) h) k,
  λ h. subst (Compares (opposite_rel r.rel)) (sym (value_negated u r)) (either r.rel (row_value u r) n h),
)

equation_value : (rel : Rel) (z : ℤ) → rel ≡ Eq → Compares rel z ↔ (z ≡ pos 0)
equation_value Eq z e = (λ h. h, λ h. h)
equation_value Le z e = cc
equation_value Lt z e = cc

pub flipped_holds : (u : Valuation) (r : Row) → r.rel ≡ Eq → RowHolds u (flipped r) ↔ RowHolds u r
flipped_holds u r e =
    let v = value_flipped u r in
    let a = equation_value r.rel (row_value u (flipped r)) e in
    let b = equation_value r.rel (row_value u r) e in (
      λ h. b.1 (let z = a.0 h in omega (arith, ints)),
      λ h. a.1 (let z = b.0 h in omega (arith, ints)),
    )

-- an equation is its two halves
pub halves_hold : EquationIsTwoHalves
halves_hold u r e =
    let v = value_flipped u r in
    let b = equation_value r.rel (row_value u r) e in (
      λ h. let z = b.0 h in (omega (arith, ints), omega (arith, ints)),
      λ h. b.1 (let l = h.0 in let m = h.1 in omega (arith, ints)),
    )

-- ---- the normal form
opposite_divided : (z : ℤ) (g : ℕ) → 0 < g → int_div (neg_ℤ z) (pos g) ≡ neg_ℤ (int_div z (pos g))
opposite_divided (pos zero) g h = let e : 0 / g ≡ 0 = omega arith in ap pos e ∙ sym (ap (λ n. neg_ℤ (pos n)) e)
opposite_divided (pos (suc n)) g h = refl
opposite_divided (negsuc n) g h = sym (neg_ℤ-neg_ℤ (pos (suc n / g)))

opposite_divided_pairs : (ps : List (ℕ × ℤ)) (g : ℕ) → 0 < g → divided_pairs (pos g) (opposite_pairs ps) ≡ opposite_pairs (divided_pairs (pos g) ps)
opposite_divided_pairs [] g h = refl
opposite_divided_pairs (p ∷ ps) g h =
    let one : ℤ → ℕ × ℤ = λ z. (p.0, z) in
    let a = ap one (opposite_divided p.1 g h) in
    let b = opposite_divided_pairs ps g h in cc

opposite_row_divided : (rel : Rel) (ps : List (ℕ × ℤ)) (c : ℤ) (g : ℕ) → 0 < g
    → divided (pos g) (record { rel = rel; pairs = opposite_pairs ps; constant = neg_ℤ c }) ≡ record { rel = rel; pairs = opposite_pairs (divided_pairs (pos g) ps); constant = neg_ℤ (int_div c (pos g)) }
opposite_row_divided rel ps c g h =
    let one : List (ℕ × ℤ) → Row = λ qs. record { rel = rel; pairs = qs; constant = int_div (neg_ℤ c) (pos g) } in
    let two : ℤ → Row = λ z. record { rel = rel; pairs = opposite_pairs (divided_pairs (pos g) ps); constant = z } in
    ap one (opposite_divided_pairs ps g h) ∙ ap two (opposite_divided c g h)

opposite_row_gcd : (ps : List (ℕ × ℤ)) (c : ℤ) → joint_gcd (unsigned_abs (neg_ℤ c)) (opposite_pairs ps) ≡ joint_gcd (unsigned_abs c) ps
opposite_row_gcd ps c = ap (λ k. joint_gcd k (opposite_pairs ps)) (opposite_abs c) ∙ opposite_gcd (unsigned_abs c) ps

plain_normal : (r : Row) → ¬ (r.rel ≡ Eq) → normal r ≡ divided (pos (max 1 (row_gcd r))) r
plain_normal r n = ap (λ b. divided (divisor_of b (max 1 (row_gcd r))) r) (by r.rel n)
  where
    by : (rel : Rel) → ¬ (rel ≡ Eq) → is_flipped rel r.pairs ≡ false
    by Eq n = absurd (n refl)
    by Le n = refl
    by Lt n = refl

opposite_not_equal : (rel : Rel) → ¬ (rel ≡ Eq) → ¬ (opposite_rel rel ≡ Eq)
opposite_not_equal Eq n e = n refl
opposite_not_equal Le n e = cc
opposite_not_equal Lt n e = cc

pub normal_negated : (r : Row) → ¬ (r.rel ≡ Eq) → normal (negated r) ≡ negated (normal r)
normal_negated r n =
    let g = max 1 (row_gcd r) in
    plain_normal (negated r) (opposite_not_equal r.rel n)
    ∙ (ap (λ k. divided (pos (max 1 k)) (negated r)) (opposite_row_gcd r.pairs r.constant)
    ∙ (opposite_row_divided (opposite_rel r.rel) r.pairs r.constant g (omega arith) ∙ ap negated (sym (plain_normal r n))))

pub normal_flipped : (r : Row) → ¬ (r.rel ≡ Eq) → normal (flipped r) ≡ flipped (normal r)
normal_flipped r n =
    let g = max 1 (row_gcd r) in
    plain_normal (flipped r) n
    ∙ (ap (λ k. divided (pos (max 1 k)) (flipped r)) (opposite_row_gcd r.pairs r.constant)
    ∙ (opposite_row_divided r.rel r.pairs r.constant g (omega arith) ∙ ap flipped (sym (plain_normal r n))))

pub negated_is_normal : (r : Row) → ¬ (r.rel ≡ Eq) → IsNormal r → IsNormal (negated r)
negated_is_normal r n h = record { rising = rising_opposite r.pairs h.rising; stays = normal_negated r n ∙ ap negated h.stays }

pub flipped_is_normal : (r : Row) → ¬ (r.rel ≡ Eq) → IsNormal r → IsNormal (flipped r)
flipped_is_normal r n h = record { rising = rising_opposite r.pairs h.rising; stays = normal_flipped r n ∙ ap flipped h.stays }

-- ---- the halves of an equation in normal form
stays_unflipped : (r : Row) → normal r ≡ r → is_flipped r.rel r.pairs ≡ false
stays_unflipped r e = sym (ap (λ (s : Row). is_flipped s.rel s.pairs) e) ∙ not_flipped r.rel r.pairs (max 1 (row_gcd r)) (omega arith)

pub half_is_normal : (r : Row) → IsNormal r → IsNormal (at_most r)
half_is_normal r h =
    let g = max 1 (row_gcd r) in
    let a : divided (pos g) r ≡ normal r = ap (λ b. divided (divisor_of b g) r) (sym (stays_unflipped r h.stays)) in
    record { rising = h.rising; stays = ap at_most (a ∙ h.stays) }

pub other_half_is_normal : (r : Row) → IsNormal r → IsNormal (at_most (flipped r))
other_half_is_normal r h = flipped_is_normal (at_most r) (λ e. cc) (half_is_normal r h)

pub negated_within : (r : Row) → is_within (negated r) ≡ is_within r
negated_within r =
    ap (λ b. b && nat_le (unsigned_abs (neg_ℤ r.constant)) limit) (opposite_pairs_within r.pairs)
    ∙ ap (λ k. pairs_within r.pairs && nat_le k limit) (opposite_abs r.constant)

pub flipped_within : (r : Row) → is_within (flipped r) ≡ is_within r
flipped_within r = negated_within r
