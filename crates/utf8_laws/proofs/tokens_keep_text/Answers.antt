use Rattle.utf8_laws.proofs.Texts.{next_is_text, after_is_text}
use Rattle.utf8_laws.proofs.tokens_keep_text.Goals as goal

pub returns : goal.returns
returns c = record { taken = next_is_text; passed = after_is_text }
