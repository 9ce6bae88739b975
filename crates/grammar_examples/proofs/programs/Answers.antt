use Rattle.grammar_examples.proofs.Texts as examples
use Rattle.grammar_examples.proofs.programs.Goals as goal

pub returns : goal.returns
returns c = record {
  a_fact = examples.programs.0;
  lists_and_numbers = examples.programs.1;
  relations = examples.programs.2;
  sort_constraint = examples.programs.3;
  bar_list = examples.programs.4;
  computed_argument = examples.programs.5;
  goal_and_clause = examples.programs.6;
}
