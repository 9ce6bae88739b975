use Rattle.std.proofs.Common.{◌≡◌, true, arith}
use Rattle.std.proofs.lemmas.Grind.{common_steps}
use Rattle.std.specs.List.{list_all}
use Rattle.std.specs.Char.{is_ascii_digit as is_digit}
use Rattle.row_reader.proofs.Digits.{all_digits}
use Rattle.row_reader.proofs.variable.are_digits.Goals as goal

pub returns-clause-digits : goal.returns-clause-digits
returns-clause-digits c =
    let e : list_all is_digit c.args.bytes.now ≡ true = grind (arith, common_steps) in
    all_digits c.args.bytes.now e
