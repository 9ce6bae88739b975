use Rattle.printed_tokens.proofs.Names.{name_is, quoted_back}
use Rattle.printed_tokens.proofs.printed_names_are_tokens.Goals as goal

pub returns-clause-token : goal.returns-clause-token
returns-clause-token c = name_is

pub returns-clause-name : goal.returns-clause-name
returns-clause-name c = quoted_back
