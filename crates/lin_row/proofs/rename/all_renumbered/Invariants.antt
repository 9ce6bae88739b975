use Rattle.std.proofs.Common.{◌≡◌, ◌++◌, drop}
use Rattle.lin_row.specs.Rows.{at}
use Rattle.lin_row.specs.Renaming.{moved}
use Rattle.lin_row.proofs.rename.all_renumbered.Given as goal

abbrev pub invariant-loop-p : goal.invariant-loop-p
invariant-loop-p l = l.entries.items ++ moved (at l.map) (drop l.p-index l.pairs) ≡ moved (at l.map) l.pairs
