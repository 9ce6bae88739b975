use Rattle.std.proofs.Common.{◌≡◌, ◌≢◌, ℕ, zero, suc, ◌<◌, arith, refl, sym, subst}
use Rattle.std.specs.Prelude.{unsigned_abs}
use Rattle.std.proofs.Math.IntN.{ℤ, pos, negsuc}
use Rattle.std.proofs.lemmas.Int.{to_z-of_z}
use Rattle.linear_model.specs.Gcd.{gcd}
use Rattle.linear_laws.proofs.Gcd.{gcd_positive}
use Rattle.chain_items.proofs.eliminate.factors.Goals as goal

abs_positive : (z : ℤ) → z ≢ pos 0 → 0 < unsigned_abs z
abs_positive (pos zero) n = absurd (n refl)
abs_positive (pos (suc m)) n = omega arith
abs_positive (negsuc m) n = omega arith

gcd_above : (a b g : ℕ) → g ≡ gcd a b → 0 < a → 0 < g
gcd_above a b g e h = subst (λ n. 0 < n) (sym e) (gcd_positive a b h)

pub nonzero_div-result : goal.nonzero_div-result
nonzero_div-result c =
    let fits = c.ranges.a in
    let v = simp to_z-of_z at c.unsigned_abs-a.ensures.value in
    let p = abs_positive c.args.a c.requires.a_not_zero in
    gcd_above c.unsigned_abs-a.result c.unsigned_abs-b.result c.gcd-divisor.result c.gcd-divisor.ensures (subst (λ n. 0 < n) (sym v) p)

pub nonzero_div-result-2 : goal.nonzero_div-result-2
nonzero_div-result-2 c =
    let fits = c.ranges.a in
    let v = simp to_z-of_z at c.unsigned_abs-a.ensures.value in
    let p = abs_positive c.args.a c.requires.a_not_zero in
    gcd_above c.unsigned_abs-a.result c.unsigned_abs-b.result c.gcd-divisor.result c.gcd-divisor.ensures (subst (λ n. 0 < n) (sym v) p)
