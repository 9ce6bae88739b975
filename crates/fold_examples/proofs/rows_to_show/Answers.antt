use Rattle.fold_examples.proofs.Folds as examples
use Rattle.fold_examples.proofs.rows_to_show.Goals as goal

pub returns : goal.returns
returns c = examples.two_rows_to_show
