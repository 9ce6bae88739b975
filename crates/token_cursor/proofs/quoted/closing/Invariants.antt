use Rattle.std.proofs.Common.{◌≡◌, drop}
use Rattle.token_model.specs.Names.{closing}
use Rattle.token_cursor.proofs.Closings.{closes}
use Rattle.token_cursor.proofs.quoted.closing.Given as goal

abbrev pub invariant-loop-at : goal.invariant-loop-at
invariant-loop-at l = closing l.text ≡ closes l.place l.last l.at (drop l.at l.text)
