use Rattle.std.specs.Prelude.{true, Contains}
use Rattle.clp_rank.specs.Entries.{setting}
use Rattle.clp_rank.proofs.Folding.{folding_keeps}
use Rattle.clause_model.specs.Canonical.{canonical_form}
use Rattle.rule_laws.specs.Folding.{defined_in}
use Rattle.rule_laws.proofs.Folding.{folds}
use Rattle.rule_laws.proofs.folding_keeps_rank.Goals as goal

pub returns : goal.returns
returns c = λ preds base live next k n folded s h r. folding_keeps (setting (defined_in preds)) (Contains base) (Contains live) (Contains next) k (record { clause = canonical_form folded; mark = true }) n (folds preds base live next k n folded s h) r
