use Rattle.std.proofs.Common.{◌≡◌, ◌+◌, ◌++◌, drop}
use Rattle.clause_printer.specs.Loose.{loose}
use Rattle.clause_printer.proofs.constraints.loose_nums.Given as goal

abbrev pub invariant-loop-index : goal.invariant-loop-index
invariant-loop-index l = l.loose ++ loose (l.index + 1) l.rows (drop l.index l.sorts) ≡ loose 1 l.fn.rows l.fn.sorts
