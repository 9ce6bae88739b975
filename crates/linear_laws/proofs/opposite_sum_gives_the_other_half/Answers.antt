use Rattle.linear_laws.proofs.Opposite.{flipped_holds, halves_hold, flipped_is_normal, half_is_normal, other_half_is_normal, flipped_within}
use Rattle.linear_laws.proofs.opposite_sum_gives_the_other_half.Goals as goal

pub returns : goal.returns
returns c = record { same = flipped_holds; halves = halves_hold; is_normal = flipped_is_normal; half_is_normal = half_is_normal; other_half_is_normal = other_half_is_normal; within = flipped_within }
