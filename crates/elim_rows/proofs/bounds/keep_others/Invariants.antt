use Rattle.std.proofs.Common.{take}
use Rattle.elim_rows.specs.Kept.{Adds, flat, of_other}
use Rattle.elim_rows.proofs.bounds.keep_others.Given as goal

abbrev pub invariant-loop-row : goal.invariant-loop-row
invariant-loop-row l = Adds l.initial.kept (flat (of_other l.var) (take l.row-index l.rows)) l.kept
