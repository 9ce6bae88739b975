use Rattle.std.proofs.Common.{◌≡◌, take}
use Rattle.clause_loader.specs.Found.{predicates_at}
use Rattle.clause_loader.proofs.found.Found.list.Given as goal

abbrev pub invariant-loop-key : goal.invariant-loop-key
invariant-loop-key l = l.preds ≡ predicates_at (take l.key-index l.key-items)
