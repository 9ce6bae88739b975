use Rattle.std.specs.Prelude.{Contains}
use Rattle.clp_rank.specs.Entries.{setting}
use Rattle.clp_rank.proofs.SameInstances.{same_instances_keep}
use Rattle.rule_laws.proofs.RowRules.{replacement_keeps, deletion_keeps}
use Rattle.rule_laws.proofs.row_rules_keep_rank.Goals as goal

pub returns-clause-replaced : goal.returns-clause-replaced
returns-clause-replaced x = λ defined base live next k c same h r. same_instances_keep (setting defined) (Contains base) (Contains live) (Contains next) k (replacement_keeps defined live next k c same h) r

pub returns-clause-deleted : goal.returns-clause-deleted
returns-clause-deleted x = λ defined base live next k none h r. same_instances_keep (setting defined) (Contains base) (Contains live) (Contains next) k (deletion_keeps defined live next k none h) r
