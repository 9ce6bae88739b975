use Rattle.linear_examples.proofs.Values as examples
use Rattle.linear_examples.proofs.rows.Goals as goal

pub returns : goal.returns
returns c = record {
  divisors = examples.divisors;
  combined = examples.combined_forms;
  normal_equation = examples.normal_equation;
  normal_inequality = examples.normal_inequality;
  normal_constants = examples.normal_constants;
  renamed = examples.renamed_rows;
  negated = examples.negated_rows;
  flipped = examples.flipped_row;
}
