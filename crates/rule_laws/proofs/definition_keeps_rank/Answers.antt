use Rattle.std.specs.Prelude.{Contains}
use Rattle.clp_rank.specs.Entries.{setting}
use Rattle.clp_rank.proofs.Defining.{defining_keeps}
use Rattle.rule_laws.specs.Folding.{defined_in}
use Rattle.rule_laws.specs.Dropping.{OfKnown}
use Rattle.rule_laws.proofs.Dropping.{defines}
use Rattle.rule_laws.proofs.definition_keeps_rank.Goals as goal

pub returns : goal.returns
returns c = λ known preds preds' base live n h r. defining_keeps (setting (defined_in preds)) (defined_in preds') (Contains base) (Contains live) n (OfKnown known) (defines known preds preds' base live n h) r
