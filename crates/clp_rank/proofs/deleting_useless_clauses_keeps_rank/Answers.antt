use Rattle.clp_rank.specs.Entries.{setting, Satisfies}
use Rattle.std.specs.Prelude.{Contains}
use Rattle.clp_rank.proofs.Useless.{useless_keeps}
use Rattle.clp_rank.proofs.deleting_useless_clauses_keeps_rank.Goals as goal

pub returns : goal.returns
returns c = λ defined inside base live next u r. useless_keeps (setting defined) (Contains base) (Contains live) (Contains next) (Satisfies inside) u r
