use Rattle.worked_examples.proofs.Meaning as examples
use Rattle.worked_examples.proofs.instances.Goals as goal

pub returns-clause-at_a : goal.returns-clause-at_a
returns-clause-at_a c = examples.instance_at_a

pub returns-clause-at_no_value : goal.returns-clause-at_no_value
returns-clause-at_no_value c = examples.no_instance
