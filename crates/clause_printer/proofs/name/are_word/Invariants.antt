use Rattle.std.proofs.Common.{◌≡◌, drop}
use Rattle.print_model.specs.Names.{are_word}
use Rattle.clause_printer.proofs.name.are_word.Given as goal

abbrev pub invariant-loop-b : goal.invariant-loop-b
invariant-loop-b l = are_word (drop l.b-index l.bytes) ≡ are_word l.fn.bytes
