use Rattle.std.proofs.Common.{◌≡◌, ◌++◌, ◌∷◌}
use Rattle.std.specs.Prelude.{string_bytes}
use lib.Utf8.{encodes}
use Rattle.clause_store.specs.Names.{all_escaped}
use Rattle.clause_store.proofs.printed.push_quoted.Given as goal

abbrev pub invariant-loop-c : goal.invariant-loop-c
invariant-loop-c l = string_bytes l.into ≡ string_bytes l.fn.into ++ 39 ∷ all_escaped (encodes l.yielded)
