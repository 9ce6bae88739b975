use Rattle.map_replay.proofs.run.by_rule.Goals as goal

pub returns-in-Drop-clause-refused : goal.returns-in-Drop-clause-refused
returns-in-Drop-clause-refused c = rw c.in-Drop.is c.drop_row.ensures.refused

pub returns-in-Equate-clause-accepted : goal.returns-in-Equate-clause-accepted
returns-in-Equate-clause-accepted c = rw c.in-Equate.is c.equate.ensures.accepted

pub returns-in-Equate-clause-refused : goal.returns-in-Equate-clause-refused
returns-in-Equate-clause-refused c = rw c.in-Equate.is c.equate.ensures.refused
