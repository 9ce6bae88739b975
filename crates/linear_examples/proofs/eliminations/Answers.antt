use Rattle.linear_examples.proofs.Values as examples
use Rattle.linear_examples.proofs.eliminations.Goals as goal

pub returns : goal.returns
returns c = record {
  factors = examples.factors_of;
  by_an_equation = examples.by_an_equation;
  by_bounds = examples.by_bounds;
  by_upper_bounds_alone = examples.by_upper_bounds_alone;
  repeats_and_constants = examples.repeats_and_constants;
}
