use Rattle.script_text.proofs.reader.read_step.Goals as goal

pub returns : goal.returns
returns c = c.told.ensures _ c.line.ensures
