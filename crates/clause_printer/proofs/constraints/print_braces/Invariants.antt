use Rattle.std.proofs.Common.{◌≡◌, ◌++◌, drop, map, string_bytes, codes}
use Rattle.print_model.specs.Joined.{joined}
use Rattle.print_model.specs.Rows.{row_text}
use Rattle.print_model.specs.Clauses.{num_text}
use Rattle.clause_printer.specs.Loose.{before}
use Rattle.clause_printer.proofs.constraints.print_braces.Given as goal

abbrev pub invariant-loop-r : goal.invariant-loop-r
invariant-loop-r l =
    string_bytes l.into ++ (joined (before l.is_first) (codes ", ") (map row_text (drop l.r-index l.rows) ++ map num_text l.nums) ++ codes "}")
    ≡ string_bytes l.fn.into ++ (joined (codes "{") (codes ", ") (map row_text l.fn.rows ++ map num_text l.fn.nums) ++ codes "}")

abbrev pub invariant-loop-number : goal.invariant-loop-number
invariant-loop-number l =
    string_bytes l.into ++ (joined (before l.is_first) (codes ", ") (map num_text (drop l.number-index l.nums)) ++ codes "}")
    ≡ string_bytes l.fn.into ++ (joined (codes "{") (codes ", ") (map row_text l.fn.rows ++ map num_text l.fn.nums) ++ codes "}")
