use Rattle.std.proofs.Common.{◌≡◌, ◌≤◌, length}
use Rattle.token_model.specs.White.{skipped}
use Rattle.token_cursor.proofs.white.skip.Given as goal

abbrev pub invariant-loop-b : goal.invariant-loop-b
invariant-loop-b l = record { same : skipped l.text ≡ skipped l.rest; shorter : length l.rest ≤ length l.text }

abbrev pub decreases-loop-b : goal.decreases-loop-b
decreases-loop-b l = length l.rest
