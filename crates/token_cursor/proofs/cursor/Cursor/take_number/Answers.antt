use Rattle.std.proofs.Common.{◌≡◌, ◌≤◌, ◌+◌, ℕ, min, arith}
use Rattle.token_model.specs.Remaining.{spelling}
use Rattle.token_model.specs.Numbers.{number_value, max_number}
use Rattle.token_cursor.proofs.Spelled.{number_is_digits, number_in_limit}
use Rattle.token_cursor.proofs.cursor.Cursor.take_number.Goals as goal

pub number_value-requires : goal.number_value-requires
number_value-requires c = rw c.take.ensures.text (number_is_digits c.args.self.now c.requires)

up_to : (r v most : ℕ) → r ≡ min v (most + 1) → v ≤ most → r ≡ v
up_to r v most e h = omega arith

pub returns-clause-value : goal.returns-clause-value
returns-clause-value c =
    up_to c.number_value.result (number_value (spelling c.args.self.now)) max_number
    (rw c.take.ensures.text at c.number_value.ensures) (number_in_limit c.args.self.now c.requires)
