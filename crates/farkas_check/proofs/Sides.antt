-- The opposite side of a target is met by the opposite multiplier.
use Rattle.std.proofs.Common.{◌≡◌, ℕ, List, [], ◌∷◌, Bool, true, false, ◌&&◌, Option, Some, None, refl, sym, ◌∙◌, ap}
use Rattle.std.specs.Prelude.{not, if◌then◌else◌}
use Rattle.std.specs.Ordering.{int_eq}
use Rattle.std.proofs.Math.IntN.{ℤ, neg_ℤ, ◌*ℤ◌}
use Rattle.clp_rationals.proofs.Whole.{neg_mul, mul_neg}
use Rattle.clp_model.specs.Clauses.{Row}
use Rattle.clp_model.specs.declared.sort.Rel.{Rel}
use Rattle.linear_model.specs.Forms.{coefficient}
use Rattle.linear_model.specs.Changes.{opposite_pairs}
use Rattle.linear_model.specs.Certificates.{Part, weighted_coefficient, weighted_constant}
use Rattle.linear_laws.proofs.Opposite.{opposite_coefficient}
use Rattle.farkas_check.specs.declared.fault.CheckFault.{CheckFault}
use Rattle.farkas_check.specs.declared.fault.CheckFault.TheVariants.{NotConstant, WrongSign}
use Rattle.farkas_check.specs.Checks.{cancels_at, each_passes, each_row_passes, cancels, is_enough, strict_used, sum_fault, weights_fault, first_of, side, oriented, allows_equal, check_fault}

moved : (k z : ℤ) → neg_ℤ k *ℤ z ≡ k *ℤ neg_ℤ z
moved k z = neg_mul k z ∙ sym (mul_neg k z)

module _ (rows : List Row) (ms : List ℤ) (k : ℤ) (pairs : List (ℕ × ℤ)) where
  abbrev mine : ℕ → Bool
  mine = cancels_at rows ms (neg_ℤ k) pairs

  abbrev other : ℕ → Bool
  other = cancels_at rows ms k (opposite_pairs pairs)

  same_at : (v : ℕ) → mine v ≡ other v
  same_at v = ap (λ z. int_eq (weighted_coefficient rows ms v) z) (moved k (coefficient pairs v) ∙ ap (λ z. k *ℤ z) (sym (opposite_coefficient pairs v)))

  same_in : (ps : List (ℕ × ℤ)) → each_passes mine ps ≡ each_passes other ps
  same_in [] = refl
  same_in (p ∷ ps) = ap (λ b. b && each_passes mine ps) (same_at p.0) ∙ ap (λ b. other p.0 && b) (same_in ps)

  same_in_rows : (rs : List Row) → each_row_passes mine rs ≡ each_row_passes other rs
  same_in_rows [] = refl
  same_in_rows (r ∷ rs) = ap (λ b. b && each_row_passes mine rs) (same_in r.pairs) ∙ ap (λ b. each_passes other r.pairs && b) (same_in_rows rs)

  same_opposite : (ps : List (ℕ × ℤ)) → each_passes mine ps ≡ each_passes other (opposite_pairs ps)
  same_opposite [] = refl
  same_opposite (p ∷ ps) = ap (λ b. b && each_passes mine ps) (same_at p.0) ∙ ap (λ b. other p.0 && b) (same_opposite ps)

  same_cancels : cancels rows ms (neg_ℤ k) pairs ≡ cancels rows ms k (opposite_pairs pairs)
  unfolding cancels
  same_cancels = ap (λ b. b && each_passes mine pairs) (same_in_rows rows) ∙ ap (λ b. each_row_passes other rows && b) (same_opposite pairs)

  pub same_fault : (constant : ℤ) (allowed : Bool) → sum_fault rows ms (neg_ℤ k) pairs constant allowed ≡ sum_fault rows ms k (opposite_pairs pairs) (neg_ℤ constant) allowed
  same_fault constant allowed =
      let whole : Bool → ℤ → Option CheckFault = λ b z. if not b then Some NotConstant else if not (is_enough (weighted_constant rows ms) z (strict_used rows ms) allowed) then Some WrongSign else None in
      ap (λ b. whole b (neg_ℤ k *ℤ constant)) same_cancels ∙ ap (λ z. whole (cancels rows ms k (opposite_pairs pairs)) z) (moved k constant)

-- the sum's fault of either side
pub side_sum : (flipped : Bool) (rel : Rel) (rows : List Row) (target : Row) (part : Part)
    → sum_fault rows part.m (oriented flipped part.k) target.pairs target.constant (allows_equal rel part.k)
    ≡ sum_fault rows part.m part.k (side flipped rel target).pairs (side flipped rel target).constant (allows_equal (side flipped rel target).rel part.k)
side_sum false rel rows target part = refl
side_sum true rel rows target part = same_fault rows part.m part.k target.pairs target.constant (allows_equal rel part.k)

pub side_first : (flipped : Bool) (rel : Rel) (rows : List Row) (target : Row) (part : Part) → None ≡ weights_fault rows part
    → sum_fault rows part.m (oriented flipped part.k) target.pairs target.constant (allows_equal rel part.k) ≡ check_fault rows (side flipped rel target) part
side_first flipped rel rows target part e =
    side_sum flipped rel rows target part
    ∙ ap (λ f. first_of f (sum_fault rows part.m part.k (side flipped rel target).pairs (side flipped rel target).constant (allows_equal (side flipped rel target).rel part.k))) e

pub side_stops : (flipped : Bool) (rel : Rel) (rows : List Row) (target : Row) (part : Part) (f : CheckFault) → Some f ≡ weights_fault rows part
    → Some f ≡ check_fault rows (side flipped rel target) part
side_stops flipped rel rows target part f e =
    ap (λ g. first_of g (sum_fault rows part.m part.k (side flipped rel target).pairs (side flipped rel target).constant (allows_equal (side flipped rel target).rel part.k))) e
