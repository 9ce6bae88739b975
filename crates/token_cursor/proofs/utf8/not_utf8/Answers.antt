use Rattle.std.proofs.Common.{arith, ◌≡◌, length}
use Rattle.std.proofs.lemmas.Bool.Decides.{nat_tests}
use Rattle.std.proofs.lemmas.Str.{utf8_valid_len-IsUtf8}
use Rattle.std.specs.Str.Lossy.{utf8_valid_len}
use Rattle.token_cursor.specs.Utf8.{not_utf8}
use Rattle.token_cursor.proofs.utf8.not_utf8.Goals as goal

pub returns-in-Ok-clause-value : goal.returns-in-Ok-clause-value
unfolding not_utf8
returns-in-Ok-clause-value c =
    let e : utf8_valid_len c.args.text.now ≡ length c.args.text.now = utf8_valid_len-IsUtf8 c.args.text.now c.in-Ok.ensures.cases.1 in
    grind (arith, nat_tests)
