use Rattle.worked_examples.proofs.Numbers as examples
use Rattle.worked_examples.proofs.lowest_terms.Goals as goal

pub returns-clause-six_quarters : goal.returns-clause-six_quarters
returns-clause-six_quarters c = examples.six_quarters

pub returns-clause-minus_six_quarters : goal.returns-clause-minus_six_quarters
returns-clause-minus_six_quarters c = examples.minus_six_quarters

pub returns-clause-two_quarters : goal.returns-clause-two_quarters
returns-clause-two_quarters c = examples.two_quarters
