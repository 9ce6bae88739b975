use Rattle.turn_laws.proofs.Turns.{products_turn, sums_turn}
use Rattle.turn_laws.proofs.chain_turns_never_decide.Goals as goal

pub returns-clause-products : goal.returns-clause-products
returns-clause-products c = products_turn

pub returns-clause-sums : goal.returns-clause-sums
returns-clause-sums c = sums_turn
