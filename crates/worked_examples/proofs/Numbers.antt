-- Lowest terms and rows.
use Rattle.std.proofs.Common.{◌≡◌, ℕ, zero, suc, ◌<◌, ◌≤◌, ◌*◌, refl, sym, ◌∙◌, subst, arith}
use Rattle.std.proofs.Math.IntN.{ℤ, pos, negsuc, ◌*ℤ◌, ◌+ℤ◌, pos-*ℤ-pos}
use Rattle.std.specs.Prelude.{◌<ℤ◌, [], ◌∷◌}
use Rattle.std.proofs.lemmas.Int.{ints}
use Rattle.clp_rationals.specs.Fraction.{Fraction, IsLowest}
use Rattle.clp_rationals.proofs.Lowest.{lowest_over, only_one}
use Rattle.clp_model.specs.declared.sort.Rel.TheVariants.{Le, Lt}
use Rattle.clp_model.specs.Values.{Valuation}
use Rattle.clp_model.specs.Clauses.{sum_of, Compares}
use Rattle.worked_examples.specs.Numbers.{SixQuarters, MinusSixQuarters, TwoQuarters, RowAtWholeNumbers, RowAtHalves, StrictRow, RowBelow, Gives}
use Rattle.worked_examples.proofs.Values.{same_value}

abbrev three_halves : ℤ → Fraction
three_halves n = record { num = n; den = 2 }

-- twice a number is not odd
odd : (n : ℤ) → n *ℤ pos 2 ≡ pos 3 → ⊥
odd (pos n) e = let h : pos (n * 2) ≡ pos 3 = sym (pos-*ℤ-pos n 2) ∙ e in absurd (omega (arith, ints))
odd (negsuc n) e = absurd (omega (arith, ints))

minus_odd : (n : ℤ) → n *ℤ pos 2 ≡ negsuc 2 → ⊥
minus_odd (pos n) e = let h : pos (n * 2) ≡ negsuc 2 = sym (pos-*ℤ-pos n 2) ∙ e in absurd (cc)
minus_odd (negsuc n) e = absurd (omega (arith, ints))

lowest : (n : ℤ) → ((m : ℤ) → m *ℤ pos 2 ≡ n *ℤ pos 1 → ⊥) → IsLowest (three_halves n)
lowest n not_over = record { positive = omega arith; least = at }
  where
    at : (m : ℤ) (k : ℕ) → 0 < k → m *ℤ pos 2 ≡ n *ℤ pos k → 2 ≤ k
    at m zero h e = absurd (omega arith)
    at m (suc zero) h e = absurd (not_over m e)
    at m (suc (suc k)) h e = omega arith

pub six_quarters : SixQuarters
six_quarters h =
    let f = lowest_over (pos 6) 4 h in
    only_one (pos 6) 4 h f.0 (three_halves (pos 3)) f.1 (lowest (pos 3) odd) f.2 refl

pub minus_six_quarters : MinusSixQuarters
minus_six_quarters h =
    let f = lowest_over (negsuc 5) 4 h in
    only_one (negsuc 5) 4 h f.0 (three_halves (negsuc 2)) f.1 (lowest (negsuc 2) minus_odd) f.2 refl

pub two_quarters : TwoQuarters
two_quarters h k = same_value (pos 2) (pos 1) 4 2 h k refl

-- ---- rows
sum_is : (u : Valuation) (n m : ℤ) (d : ℕ) → Gives u n m d
    → sum_of u.number ((1, pos 2) ∷ (2, negsuc 0) ∷ []) +ℤ pos 1 *ℤ pos u.whole ≡ (pos 2 *ℤ n +ℤ (negsuc 0 *ℤ m +ℤ pos 0)) +ℤ pos 1 *ℤ pos d
sum_is u n m d g = rw (g.first, g.second, g.whole) refl

pub at_whole_numbers : RowAtWholeNumbers
at_whole_numbers u g =
    let e = sum_is u (pos 1) (pos 3) 1 g in (e, subst (Compares Le) (sym e) (omega (arith, ints)))

pub at_halves : RowAtHalves
at_halves u g =
    let e = sum_is u (pos 1) (pos 4) 2 g in (e, subst (Compares Le) (sym e) (omega (arith, ints)))

pub strict : StrictRow
strict u g h =
    let e = sum_is u (pos 1) (pos 3) 1 g in
    let less : pos 0 <ℤ pos 0 = subst (Compares Lt) e h in
    omega (arith, ints)

pub below : RowBelow
below u g =
    let e = sum_is u (pos 1) (pos 5) 2 g in
    (subst (Compares Lt) (sym e) (omega (arith, ints)), λ h. let none : negsuc 0 ≡ pos 0 = sym e ∙ h in absurd (cc))
