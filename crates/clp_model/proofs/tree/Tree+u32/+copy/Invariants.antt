use Rattle.std.proofs.Common.{◌≡◌, take}
use Rattle.clp_model.proofs.tree.Tree+u32.+copy.Given as goal

abbrev pub invariant-loop-arg : goal.invariant-loop-arg
invariant-loop-arg l = l.copies ≡ take l.arg-index l.arg-items
