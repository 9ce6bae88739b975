use Rattle.std.proofs.Common.{◌≡◌, ◌++◌, drop}
use Rattle.row_grammar.specs.Row.{variable_numbers}
use Rattle.row_reader.proofs.variable.variable_numbers.Given as goal

abbrev pub invariant-loop-name : goal.invariant-loop-name
invariant-loop-name l = l.numbers.items ++ variable_numbers (drop l.name-index l.names) ≡ variable_numbers l.fn.names
