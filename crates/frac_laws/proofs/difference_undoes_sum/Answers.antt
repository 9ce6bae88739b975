use Rattle.frac_laws.proofs.Inverses.{difference_undoes_sum, sum_undoes_difference}
use Rattle.frac_laws.proofs.difference_undoes_sum.Goals as goal

pub returns : goal.returns
returns c = λ f g lf lg. (difference_undoes_sum f g lf lg, sum_undoes_difference f g lf lg)
