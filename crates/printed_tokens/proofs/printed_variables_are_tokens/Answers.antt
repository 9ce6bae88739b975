use Rattle.printed_tokens.proofs.Names.{variable_is}
use Rattle.printed_tokens.proofs.printed_variables_are_tokens.Goals as goal

pub returns : goal.returns
returns c = variable_is
