use Rattle.grammar_examples.proofs.Texts as examples
use Rattle.grammar_examples.proofs.faults.Goals as goal

pub returns : goal.returns
returns c = record {
  product = examples.faults.0;
  no_atom = examples.faults.1;
  reserved = examples.faults.2;
  zero_divisor = examples.faults.3;
  brace = examples.faults.4;
  out_of_range = examples.faults.5;
  behind_goal = examples.faults.6;
}
