-- One over a fraction as the code computes it.
use Rattle.std.proofs.Common.{◌≡◌, ℕ, zero, suc, ◌≤◌, true, false, refl, sym, ◌∙◌, ap, subst, to_z, of_z}
use mir.Syntax.{w64}
use Rattle.std.specs.Prelude.{unsigned_abs}
use Rattle.std.proofs.Math.IntN.{ℤ, pos, negsuc, neg_ℤ}
use Rattle.clp_rationals.specs.Fraction.{Fraction, IsLowest}
use Rattle.linear_model.specs.Forms.{is_zero}
use Rattle.linear_model.specs.Normal.{limit}
use Rattle.frac_model.specs.Reduced.{fraction, over, reciprocal}
use Rattle.frac_model.specs.Results.{is_small}
use Rattle.frac_laws.proofs.Turned.{reciprocal_lowest}
use Rattle.frac128.proofs.Reducing.{same_64, small, num_small, den_small}

pub reciprocal_small : (f : Fraction) → is_small f ≡ true → is_small (reciprocal f) ≡ true
reciprocal_small f s = by f.num refl
  where
    abs_neg : (n : ℕ) → unsigned_abs (neg_ℤ (pos n)) ≡ n
    abs_neg zero = refl
    abs_neg (suc n) = refl

    by : (n : ℤ) → f.num ≡ n → is_small (over f.den n) ≡ true
    by (pos n) e = small (pos f.den) n (den_small f s) (subst (λ z. unsigned_abs z ≤ limit) e (num_small f s))
    by (negsuc n) e = small (neg_ℤ (pos f.den)) (suc n) (subst (λ k. k ≤ limit) (sym (abs_neg f.den)) (den_small f s)) (subst (λ z. unsigned_abs z ≤ limit) e (num_small f s))

over_parts : (d : ℕ) (n : ℤ) → fraction (over d n).num (unsigned_abs n) ≡ over d n
over_parts d (pos n) = refl
over_parts d (negsuc n) = refl

-- n and d are the parts as they are computed, and g the fraction that stands for f
pub reciprocal_kept : (f g : Fraction) (n : ℤ) (d : ℕ) → f ≡ g → is_zero g.num ≡ false → IsLowest f → is_small f ≡ true
    → n ≡ (over f.den (to_z w64 (of_z w64 f.num))).num → d ≡ unsigned_abs (to_z w64 (of_z w64 f.num))
    → IsLowest (fraction (to_z w64 (of_z w64 n)) d) × (is_small (fraction (to_z w64 (of_z w64 n)) d) ≡ true)
reciprocal_kept f g n d view z l s vn vd =
    let nz : is_zero f.num ≡ false = ap (λ h. is_zero h.num) view ∙ z in
    let same = same_64 f.num (num_small f s) in
    let r : fraction n d ≡ reciprocal f =
    ap (λ x. fraction x d) (vn ∙ ap (λ y. (over f.den y).num) same) ∙ (ap (fraction (over f.den f.num).num) (vd ∙ ap unsigned_abs same) ∙ over_parts f.den f.num) in
    let small_r = reciprocal_small f s in
    let sn : is_small (fraction n d) ≡ true = ap is_small r ∙ small_r in
    let t : fraction (to_z w64 (of_z w64 n)) d ≡ reciprocal f = ap (λ x. fraction x d) (same_64 n (num_small (fraction n d) sn)) ∙ r in
    (subst IsLowest (sym t) (reciprocal_lowest f nz l), ap is_small t ∙ small_r)
