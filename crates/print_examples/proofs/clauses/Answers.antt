use Rattle.print_examples.proofs.Texts as examples
use Rattle.print_examples.proofs.clauses.Goals as goal

pub returns : goal.returns
returns c = record {
  a_fact = examples.a_fact;
  lists = examples.lists;
  list_names = examples.list_names;
  quoted_names = examples.quoted_names;
  rows_and_nums = examples.rows_and_nums;
  nums_alone = examples.nums_alone;
  constant_row = examples.constant_row;
}
