use Rattle.chain_laws.proofs.Starting.{target_shown, falsehood_shown, target_count, falsehood_count}
use Rattle.chain_laws.proofs.what_is_found_is_shown.Goals as goal

pub returns : goal.returns
returns c = record { target = target_shown; falsehood = falsehood_shown; target_count = target_count; falsehood_count = falsehood_count }
