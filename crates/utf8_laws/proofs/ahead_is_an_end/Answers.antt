use Rattle.utf8_laws.proofs.Texts.{ahead_is_end}
use Rattle.utf8_laws.proofs.ahead_is_an_end.Goals as goal

pub returns : goal.returns
returns c = ahead_is_end
