use Rattle.linear_laws.proofs.Opposite.{negated_holds, negated_is_normal, negated_within}
use Rattle.linear_laws.proofs.negation_is_the_complement.Goals as goal

pub returns : goal.returns
returns c = record { holds = negated_holds; is_normal = negated_is_normal; within = negated_within }
