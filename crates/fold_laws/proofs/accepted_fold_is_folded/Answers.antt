use Rattle.fold_laws.proofs.Accepted.{is_folded}
use Rattle.fold_laws.proofs.accepted_fold_is_folded.Goals as goal

pub returns : goal.returns
returns c = λ n k at with keep bs hn some h. is_folded n k at with keep bs hn some h
