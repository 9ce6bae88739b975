use Rattle.std.proofs.Common.{◌≡◌, ◌+◌, take, min}
use Rattle.token_model.specs.Numbers.{number_value, max_number}
use Rattle.token_cursor.proofs.number.number_value.Given as goal

-- the digits so far
abbrev pub invariant-loop-b : goal.invariant-loop-b
invariant-loop-b l = l.value ≡ min (number_value (take l.b-index l.digits)) (max_number + 1)
