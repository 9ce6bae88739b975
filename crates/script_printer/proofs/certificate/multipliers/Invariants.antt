use Rattle.std.proofs.Common.{◌≡◌, ◌++◌, codes, drop, map, string_bytes}
use Rattle.std.specs.Fmt.{signed_decimal}
use Rattle.print_model.specs.Joined.{joined}
use Rattle.script_printer.proofs.certificate.multipliers.Given as goal

abbrev pub invariant-loop-number : goal.invariant-loop-number
invariant-loop-number l =
    string_bytes l.into ++ joined (codes ",") (codes ",") (map signed_decimal (drop l.number-index l.numbers))
    ≡ string_bytes l.fn.into ++ joined (codes ",") (codes ",") (map signed_decimal l.fn.numbers)
