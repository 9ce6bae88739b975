use Rattle.chain_laws.proofs.Public.{exact_outcome, enough_turns, by_turns}
use Rattle.chain_laws.proofs.each_outcome_is_exact.Goals as goal

pub returns : goal.returns
returns c = record { outcome = exact_outcome; turns_suffice = enough_turns; goes_by_turns = by_turns }
