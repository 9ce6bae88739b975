use Rattle.std.proofs.Common.{◌≡◌, drop}
use Rattle.farkas_check.specs.Checks.{strict_used}
use Rattle.farkas_check.proofs.check.strict_used.Given as goal

abbrev pub invariant-loop-i : goal.invariant-loop-i
invariant-loop-i l = strict_used (drop l.i l.rows) (drop l.i l.multipliers) ≡ strict_used l.rows l.multipliers
