use Rattle.std.proofs.Common.{◌≡◌, drop}
use Rattle.clause_store.specs.Names.{are_word}
use Rattle.clause_store.proofs.printed.are_word.Given as goal

abbrev pub invariant-loop-byte : goal.invariant-loop-byte
invariant-loop-byte l = are_word (drop l.byte-index l.bytes) ≡ are_word l.bytes
