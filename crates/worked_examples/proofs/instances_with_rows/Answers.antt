use Rattle.worked_examples.proofs.RowInstances as examples
use Rattle.worked_examples.proofs.instances_with_rows.Goals as goal

pub returns-clause-at_half : goal.returns-clause-at_half
returns-clause-at_half c = examples.instance_with_row

pub returns-clause-at_two : goal.returns-clause-at_two
returns-clause-at_two c = examples.no_instance_with_row
