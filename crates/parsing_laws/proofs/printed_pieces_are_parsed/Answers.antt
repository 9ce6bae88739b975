use Rattle.parsing_laws.proofs.Rows.{comparison_is}
use Rattle.parsing_laws.proofs.Texts.{term_is}
use Rattle.parsing_laws.proofs.printed_pieces_are_parsed.Goals as goal

pub returns-clause-terms : goal.returns-clause-terms
returns-clause-terms c = term_is

pub returns-clause-rows : goal.returns-clause-rows
returns-clause-rows c place row more ms r text within numbers front stops = comparison_is place row within ms r text numbers front stops more
