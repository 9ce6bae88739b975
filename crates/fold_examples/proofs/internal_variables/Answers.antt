use Rattle.fold_examples.proofs.Folds as examples
use Rattle.fold_examples.proofs.internal_variables.Goals as goal

pub returns-clause-none : goal.returns-clause-none
returns-clause-none c = examples.nothing_lost

pub returns-clause-head : goal.returns-clause-head
returns-clause-head c = examples.lost_in_head

pub returns-clause-row : goal.returns-clause-row
returns-clause-row c = examples.lost_in_kept_row

pub returns-clause-sort : goal.returns-clause-sort
returns-clause-sort c = examples.lost_by_its_sort

pub returns-clause-dropped : goal.returns-clause-dropped
returns-clause-dropped c = examples.dropped_row_needs_no_internal
