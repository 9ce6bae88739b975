use Rattle.std.proofs.Common.{take}
use Rattle.elim_rows.specs.Kept.{Adds, flat, of_lower}
use Rattle.elim_rows.proofs.bounds.pair_bounds.Given as goal

abbrev pub invariant-loop-lower : goal.invariant-loop-lower
invariant-loop-lower l = Adds l.initial.kept (flat (of_lower l.var l.rows) (take l.lower-index l.rows)) l.kept
