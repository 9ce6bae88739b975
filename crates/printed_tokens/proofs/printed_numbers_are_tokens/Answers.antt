use Rattle.printed_tokens.proofs.Numbers.{number_is, number_back}
use Rattle.printed_tokens.proofs.printed_numbers_are_tokens.Goals as goal

pub returns-clause-token : goal.returns-clause-token
returns-clause-token c = number_is

pub returns-clause-value : goal.returns-clause-value
returns-clause-value c = number_back
