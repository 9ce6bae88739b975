use Rattle.text_laws.proofs.Sources.{sources_are_texts, sources_are_themselves}
use Rattle.text_laws.proofs.printed_sources_are_themselves.Goals as goal

pub returns-clause-texts : goal.returns-clause-texts
returns-clause-texts c = sources_are_texts

pub returns-clause-read : goal.returns-clause-read
returns-clause-read c = sources_are_themselves
