use Rattle.utf8_laws.proofs.Texts.{ahead_is_text}
use Rattle.utf8_laws.proofs.skipping_keeps_text.Goals as goal

pub returns : goal.returns
returns c = ahead_is_text
