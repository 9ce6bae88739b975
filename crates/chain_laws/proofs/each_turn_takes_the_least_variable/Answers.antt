use Rattle.chain_laws.proofs.Public.{least_is, variables_rise}
use Rattle.chain_laws.proofs.each_turn_takes_the_least_variable.Goals as goal

pub returns : goal.returns
returns c = record { least = least_is; variables_rise = variables_rise }
