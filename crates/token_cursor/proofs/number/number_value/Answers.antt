use Rattle.token_model.specs.Numbers.{max_number}
use Rattle.token_cursor.proofs.Digits.{digit_low, digit_high, one_more_digit}
use Rattle.std.proofs.Common.{ap, ◌∙◌, min, ◌+◌, ◌*◌, ◌-◌, get_or}
use Rattle.token_cursor.proofs.number.number_value.Goals as goal

pub with_digit-value-requires-clause-low : goal.with_digit-value-requires-clause-low
with_digit-value-requires-clause-low c = digit_low c.args.digits.now c.loop-b.b-index c.requires c.loop-b-test.true

pub with_digit-value-requires-clause-high : goal.with_digit-value-requires-clause-high
with_digit-value-requires-clause-high c = digit_high c.args.digits.now c.loop-b.b-index c.requires c.loop-b-test.true

pub loop-b-preserved : goal.loop-b-preserved
loop-b-preserved c =
    c.with_digit-value.ensures
    ∙ ap (λ n. min (n * 10 + (get_or c.args.digits.now c.loop-b.b-index 0 - 48)) (max_number + 1)) c.loop-b.invariant
    ∙ one_more_digit c.args.digits.now c.loop-b.b-index max_number c.requires c.loop-b-test.true
