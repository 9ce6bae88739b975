use Rattle.linear_examples.proofs.Values as examples
use Rattle.linear_examples.proofs.Shown as parts
use Rattle.linear_examples.proofs.chains.Goals as goal

pub returns : goal.returns
returns c = record {
  shows = examples.chain_shows;
  part_shows = parts.part_shows;
  no_part_for_strict = parts.no_part_for_strict;
  finds_nothing = examples.finds_nothing;
  shows_false = examples.shows_false;
  no_negative_multiplier = parts.no_negative_multiplier;
  leaves_the_row_limit = examples.leaves_the_row_limit;
  at_the_multiplier_limit = examples.at_the_multiplier_limit;
  leaves_the_multiplier_limit = examples.leaves_the_multiplier_limit;
}
