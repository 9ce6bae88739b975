use Rattle.worked_examples.proofs.Meaning as examples
use Rattle.worked_examples.proofs.equations.Goals as goal

pub returns-clause-at_a : goal.returns-clause-at_a
returns-clause-at_a c = examples.equation_at_a

pub returns-clause-at_b : goal.returns-clause-at_b
returns-clause-at_b c = examples.equation_at_b
