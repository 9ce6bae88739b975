use Rattle.std.proofs.Common.{◌≡◌, ◌++◌, codes, drop, map, string_bytes}
use Rattle.std.specs.Fmt.{decimal}
use Rattle.print_model.specs.Joined.{joined}
use Rattle.script_printer.proofs.list.later_numbers.Given as goal

abbrev pub invariant-loop-number : goal.invariant-loop-number
invariant-loop-number l =
    string_bytes l.into ++ joined (codes ",") (codes ",") (map decimal (drop l.number-index l.numbers))
    ≡ string_bytes l.fn.into ++ joined (codes ",") (codes ",") (map decimal l.fn.numbers)
