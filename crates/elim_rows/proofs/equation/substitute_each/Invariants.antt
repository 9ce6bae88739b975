use Rattle.std.proofs.Common.{take}
use Rattle.elim_rows.specs.Kept.{Adds, flat, of_substituted}
use Rattle.elim_rows.proofs.equation.substitute_each.Given as goal

abbrev pub invariant-loop-row : goal.invariant-loop-row
invariant-loop-row l = Adds l.initial.kept (flat (of_substituted l.var l.equation) (take l.row-index l.rows)) l.kept
