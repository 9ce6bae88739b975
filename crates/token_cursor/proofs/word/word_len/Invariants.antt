use Rattle.std.proofs.Common.{◌≡◌, ◌+◌, drop}
use Rattle.token_model.specs.Names.{word_len}
use Rattle.token_cursor.proofs.word.word_len.Given as goal

abbrev pub invariant-loop-at : goal.invariant-loop-at
invariant-loop-at l = word_len l.text ≡ l.at + word_len (drop l.at l.text)
