use Rattle.clause_meaning.proofs.operator.operated.Goals as goal

pub returns : goal.returns
returns c = c.placed.ensures _ c.computed.ensures
