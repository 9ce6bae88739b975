use Rattle.script_text.proofs.reader.read_script.Goals as goal

pub returns : goal.returns
returns c = c.told.ensures _ c.script.ensures
