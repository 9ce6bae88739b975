use Rattle.std.proofs.Common.{◌≡◌, drop}
use Rattle.linear_model.specs.Chain.{weights_within}
use Rattle.farkas_check.proofs.part.all_fit.Given as goal

abbrev pub invariant-loop-number : goal.invariant-loop-number
invariant-loop-number l = weights_within (drop l.number-index l.numbers) ≡ weights_within l.numbers
