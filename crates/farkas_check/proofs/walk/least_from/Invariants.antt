use Rattle.std.proofs.Common.{◌≡◌, drop}
use Rattle.farkas_check.specs.Walk as spec
use Rattle.farkas_check.proofs.walk.least_from.Given as goal

abbrev pub invariant-loop-p : goal.invariant-loop-p
invariant-loop-p l = spec.least_from l.from (drop l.p-index l.pairs) l.least ≡ spec.least_from l.from l.pairs l.fn.found
