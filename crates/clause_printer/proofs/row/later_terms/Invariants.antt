use Rattle.std.proofs.Common.{◌≡◌, ◌++◌, drop, string_bytes}
use Rattle.print_model.specs.Rows.{later_terms}
use Rattle.clause_printer.proofs.row.later_terms.Given as goal

abbrev pub invariant-loop-pair : goal.invariant-loop-pair
invariant-loop-pair l = string_bytes l.into ++ later_terms (drop l.pair-index l.pairs) ≡ string_bytes l.fn.into ++ later_terms l.fn.pairs
