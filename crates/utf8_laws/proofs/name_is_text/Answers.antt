use Rattle.utf8_laws.proofs.Texts.{name_is_text}
use Rattle.utf8_laws.proofs.name_is_text.Goals as goal

pub returns : goal.returns
returns c = name_is_text
