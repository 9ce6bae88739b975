use Rattle.fill_laws.proofs.Accepted.{accepted_is, rule_of}
use Rattle.fill_laws.proofs.accepted_step_is_its_rewriting.Goals as goal

pub returns-clause-accepted : goal.returns-clause-accepted
returns-clause-accepted c = accepted_is

pub returns-clause-rule : goal.returns-clause-rule
returns-clause-rule c = rule_of
