use Rattle.fill_laws.proofs.ShownAll.{all_shown_accepted, all_shown_entailed}
use Rattle.fill_laws.proofs.several_shown_rows_are_entailed.Goals as goal

pub returns-clause-accepted : goal.returns-clause-accepted
returns-clause-accepted c = all_shown_accepted

pub returns-clause-entailed : goal.returns-clause-entailed
returns-clause-entailed c = all_shown_entailed
