use Rattle.std.specs.Prelude.{Contains}
use Rattle.clp_rank.specs.Entries.{setting}
use Rattle.clp_rank.proofs.Unfolding.{unfolding_keeps}
use Rattle.rule_laws.proofs.Unfolding.{unfolds}
use Rattle.rule_laws.proofs.unfolding_keeps_rank.Goals as goal

pub returns-clause-record_of : goal.returns-clause-record_of
returns-clause-record_of c = unfolds

pub returns-clause-rank : goal.returns-clause-rank
returns-clause-rank c = λ defined base live next k i h r. unfolding_keeps (setting defined) (Contains base) (Contains live) (Contains next) k (unfolds defined live next k i h) r
