use Rattle.std.proofs.Common.{◌≡◌, drop}
use Rattle.linear_model.specs.Normal.{joint_gcd}
use Rattle.chain_items.proofs.key.joint.Given as goal

abbrev pub invariant-loop-p : goal.invariant-loop-p
invariant-loop-p l = joint_gcd l.divisor (drop l.p-index l.pairs) ≡ joint_gcd l.start l.pairs
