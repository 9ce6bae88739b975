use Rattle.std.proofs.Common.{◌≡◌, drop}
use Rattle.farkas_check.specs.Checks.{any_negative}
use Rattle.farkas_check.proofs.check.any_negative.Given as goal

abbrev pub invariant-loop-i : goal.invariant-loop-i
invariant-loop-i l = any_negative (drop l.i l.rows) (drop l.i l.multipliers) ≡ any_negative l.rows l.multipliers
