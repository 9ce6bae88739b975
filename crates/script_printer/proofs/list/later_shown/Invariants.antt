use Rattle.std.proofs.Common.{◌≡◌, ◌++◌, codes, drop, map, string_bytes}
use Rattle.print_model.specs.Joined.{joined}
use Rattle.script_grammar.specs.ScriptText.{shown_text}
use Rattle.script_printer.proofs.list.later_shown.Given as goal

abbrev pub invariant-loop-way : goal.invariant-loop-way
invariant-loop-way l =
    string_bytes l.into ++ joined (codes ",") (codes ",") (map shown_text (drop l.way-index l.ways))
    ≡ string_bytes l.fn.into ++ joined (codes ",") (codes ",") (map shown_text l.fn.ways)
