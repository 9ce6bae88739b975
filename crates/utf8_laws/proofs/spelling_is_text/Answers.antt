use Rattle.utf8_laws.proofs.Texts.{spelling_is_text}
use Rattle.utf8_laws.proofs.spelling_is_text.Goals as goal

pub returns : goal.returns
returns c = spelling_is_text
