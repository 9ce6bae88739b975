use Rattle.clp_rank.specs.Entries.{setting}
use Rattle.std.specs.Prelude.{Contains}
use Rattle.clp_rank.proofs.SameInstances.{same_instances_keep}
use Rattle.clp_rank.proofs.same_instances_keep_rank.Goals as goal

pub returns : goal.returns
returns c = λ defined base live next k u r. same_instances_keep (setting defined) (Contains base) (Contains live) (Contains next) k u r
