use Rattle.std.proofs.Common.{◌≡◌, drop}
use Rattle.token_model.specs.White.{after_line}
use Rattle.token_cursor.proofs.white.after_line.Given as goal

abbrev pub invariant-loop-at : goal.invariant-loop-at
invariant-loop-at l = after_line l.text ≡ after_line (drop l.at l.text)
