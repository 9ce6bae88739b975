use Rattle.std.proofs.Common.{◌≡◌, drop}
use Rattle.linear_model.specs.Chain.{first_false}
use Rattle.entail_find.proofs.chain.false_place.Given as goal

abbrev pub invariant-loop-place : goal.invariant-loop-place
invariant-loop-place l = first_false (drop l.place l.items) ≡ first_false l.items
