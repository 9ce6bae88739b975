use Rattle.std.proofs.Common.{take}
use Rattle.elim_rows.specs.Kept.{Adds, flat, of_upper}
use Rattle.elim_rows.proofs.bounds.pair_with_each.Given as goal

abbrev pub invariant-loop-row : goal.invariant-loop-row
invariant-loop-row l = Adds l.initial.kept (flat (of_upper l.var l.lower) (take l.row-index l.rows)) l.kept
