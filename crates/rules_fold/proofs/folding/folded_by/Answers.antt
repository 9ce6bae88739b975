use Rattle.rules_fold.proofs.Parts.{positions}
use Rattle.rules_fold.proofs.folding.folded_by.Goals as goal

pub replacement-requires-clause-positions : goal.replacement-requires-clause-positions
replacement-requires-clause-positions c = positions c.store-store.result.now c.args.entry.now.clause c.args.at.now c.in_ok-images.ensures.allowed.atoms
