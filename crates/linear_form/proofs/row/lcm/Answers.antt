use Rattle.std.proofs.Common.{◌<◌, sym, subst}
use Rattle.frac_laws.proofs.Gcd.{gcd_positive_last}
use Rattle.linear_form.proofs.row.lcm.Goals as goal

pub nonzero_div-share : goal.nonzero_div-share
nonzero_div-share c = subst (λ g. 0 < g) (sym c.gcd.ensures) (gcd_positive_last c.args.n c.args.den c.requires.positive)
