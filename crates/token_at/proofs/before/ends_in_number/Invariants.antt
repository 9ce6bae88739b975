use Rattle.std.proofs.Common.{◌≡◌, reverse, length}
use Rattle.token_at.specs.Before.{ends_in_number}
use Rattle.token_at.proofs.Back.{goes_on}
use Rattle.token_at.proofs.before.ends_in_number.Given as goal

abbrev pub invariant-loop-b : goal.invariant-loop-b
invariant-loop-b l = ends_in_number l.text ≡ goes_on l.digits (reverse l.rest)

abbrev pub decreases-loop-b : goal.decreases-loop-b
decreases-loop-b l = length l.rest
