use Rattle.linear_laws.proofs.Cleaning.{elimination_exact}
use Rattle.linear_laws.proofs.Fresh.{variable_is_gone, no_variable_comes, elimination_rises}
use Rattle.linear_laws.proofs.elimination_is_exact.Goals as goal

pub returns : goal.returns
returns c = record { exact = elimination_exact; gone = variable_is_gone; none_comes = no_variable_comes; rising = elimination_rises }
