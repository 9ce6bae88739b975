use Rattle.std.proofs.Common.{◌≡◌, ◌-◌, ◌++◌, map}
use Rattle.chain_items.specs.Sparse.{spread, sign}
use Rattle.chain_items.proofs.certificate.multipliers.Given as goal

abbrev pub invariant-loop-place : goal.invariant-loop-place
invariant-loop-place l =
    l.all.items ++ map (sign l.is_opposite) (spread l.place (l.fn.count - l.place) l.weights) ≡ map (sign l.is_opposite) (spread 0 l.fn.count l.weights)
