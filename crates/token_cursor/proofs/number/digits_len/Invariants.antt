use Rattle.std.proofs.Common.{◌≡◌, ◌+◌, drop}
use Rattle.token_model.specs.Numbers.{digits_len}
use Rattle.token_cursor.proofs.number.digits_len.Given as goal

abbrev pub invariant-loop-at : goal.invariant-loop-at
invariant-loop-at l = digits_len l.text ≡ l.at + digits_len (drop l.at l.text)
