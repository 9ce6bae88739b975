use Rattle.std.proofs.Common.{◌≡◌, drop}
use Rattle.row_grammar.specs.Row.{parts_fault_of}
use Rattle.row_reader.proofs.variable.+variables_fault.Given as goal

abbrev pub invariant-parts_fault-loop-part : goal.invariant-parts_fault-loop-part
invariant-parts_fault-loop-part l = parts_fault_of l.numbers (drop l.part-index l.parts) ≡ parts_fault_of l.fn.numbers l.fn.parts
