use Rattle.std.proofs.Common.{◌≡◌, ◌++◌, string_bytes}
use Rattle.std.specs.Str.Iter.{chars_rest}
use Rattle.std.specs.Prelude.{codes}
use Rattle.print_model.specs.Names.{all_escaped, quoted}
use Rattle.clause_printer.proofs.name.quoted.Given as goal

abbrev pub invariant-loop-c : goal.invariant-loop-c
invariant-loop-c l = string_bytes l.into ++ (all_escaped (chars_rest l.c-iterator) ++ codes "'") ≡ string_bytes l.fn.into ++ quoted l.fn.name
