use Rattle.fold_examples.proofs.Folds as examples
use Rattle.fold_examples.proofs.named_images.Goals as goal

pub returns-clause-length : goal.returns-clause-length
returns-clause-length c = examples.with_of_wrong_length

pub returns-clause-sort : goal.returns-clause-sort
returns-clause-sort c = examples.with_of_any_variable

pub returns-clause-number : goal.returns-clause-number
returns-clause-number c = examples.with_of_number

pub returns-clause-image : goal.returns-clause-image
returns-clause-image c = examples.named_image
