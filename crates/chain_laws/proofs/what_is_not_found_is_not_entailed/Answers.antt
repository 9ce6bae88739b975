use Rattle.chain_laws.proofs.Starting.{not_entailed, half_not_found, satisfiable}
use Rattle.chain_laws.proofs.what_is_not_found_is_not_entailed.Goals as goal

pub returns : goal.returns
returns c = record { target = not_entailed; half = half_not_found; falsehood = satisfiable }
