-- The opposite fraction as the code computes it.
use Rattle.std.proofs.Common.{◌≡◌, ◌≤◌, true, sym, ◌∙◌, ap, subst, to_z, of_z}
use Rattle.std.specs.Prelude.{unsigned_abs}
use Rattle.std.proofs.Math.IntN.{ℤ, neg_ℤ}
use mir.Syntax.{w64}
use Rattle.clp_rationals.specs.Fraction.{Fraction, IsLowest}
use Rattle.linear_model.specs.Normal.{limit}
use Rattle.frac_model.specs.Reduced.{fraction}
use Rattle.frac_model.specs.Results.{is_small}
use Rattle.frac_laws.proofs.Turned.{opposite_lowest}
use Rattle.frac128.proofs.Reducing.{same_64, small, num_small, den_small}

-- n is the opposite numerator as it is computed
pub opposite_kept : (f : Fraction) (n : ℤ) → IsLowest f → is_small f ≡ true → n ≡ neg_ℤ (to_z w64 (of_z w64 f.num)) → unsigned_abs n ≤ limit
    → IsLowest (fraction (to_z w64 (of_z w64 n)) f.den) × (is_small (fraction (to_z w64 (of_z w64 n)) f.den) ≡ true)
opposite_kept f n l s v h =
    let e : n ≡ neg_ℤ f.num = v ∙ ap neg_ℤ (same_64 f.num (num_small f s)) in
    let k : to_z w64 (of_z w64 n) ≡ n = same_64 n h in
    let m : unsigned_abs (to_z w64 (of_z w64 n)) ≤ limit = subst (λ z. unsigned_abs z ≤ limit) (sym k) h in (
      subst (λ z. IsLowest (fraction z f.den)) (sym (k ∙ e)) (opposite_lowest f l),
      small (to_z w64 (of_z w64 n)) f.den m (den_small f s),
    )
