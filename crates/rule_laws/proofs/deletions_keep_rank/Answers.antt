use Rattle.std.specs.Prelude.{◌≡◌, true, Contains}
use Rattle.clp_rank.specs.Entries.{setting}
use Rattle.clp_rank.proofs.Subsuming.{subsuming_keeps}
use Rattle.clp_rank.proofs.Useless.{useless_keeps}
use Rattle.rule_laws.specs.Folding.{defined_in}
use Rattle.rule_laws.proofs.Dropping.{subsumed, useless}
use Rattle.rule_laws.proofs.deletions_keep_rank.Goals as goal

pub returns-clause-covered : goal.returns-clause-covered
returns-clause-covered c = λ defined base live next k e s h r. subsuming_keeps (setting defined) (Contains base) (Contains live) (Contains next) k e (subsumed defined live next k e s h) r

pub returns-clause-useless : goal.returns-clause-useless
returns-clause-useless c = λ defined set base live next h r. useless_keeps (setting defined) (Contains base) (Contains live) (Contains next) (λ a. defined_in set a ≡ true) (useless defined set live next h) r
