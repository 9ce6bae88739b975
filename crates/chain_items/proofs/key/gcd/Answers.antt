use Rattle.std.proofs.Common.{◌≡◌, sym, ◌∙◌, ap, arith}
use Rattle.linear_model.specs.Gcd.{gcd}
use Rattle.linear_laws.proofs.Gcd.{gcd_step, gcd_zero}
use Rattle.chain_items.proofs.key.gcd.Goals as goal

pub loop-y-preserved : goal.loop-y-preserved
loop-y-preserved c = sym (gcd_step c.loop-y.x c.loop-y.y) ∙ c.loop-y.invariant

pub returns : goal.returns
returns c = let e : c.loop-y.y ≡ 0 = omega arith in sym (gcd_zero c.loop-y.x) ∙ (ap (gcd c.loop-y.x) (sym e) ∙ c.loop-y.invariant)
