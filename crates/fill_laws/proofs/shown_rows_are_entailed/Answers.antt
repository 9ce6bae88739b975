use Rattle.fill_laws.proofs.Shown.{shown_accepted, shown_entailed}
use Rattle.fill_laws.proofs.shown_rows_are_entailed.Goals as goal

pub returns-clause-accepted : goal.returns-clause-accepted
returns-clause-accepted c = shown_accepted

pub returns-clause-entailed : goal.returns-clause-entailed
returns-clause-entailed c = shown_entailed
