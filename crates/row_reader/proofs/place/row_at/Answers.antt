use Rattle.row_reader.proofs.place.row_at.Goals as goal

pub returns : goal.returns
returns c = c.told.ensures _ c.row.ensures
