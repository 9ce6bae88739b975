use Rattle.text_laws.proofs.Laws.{printed_programs_are_texts}
use Rattle.text_laws.proofs.printed_programs_are_texts.Goals as goal

pub returns : goal.returns
returns c = printed_programs_are_texts
