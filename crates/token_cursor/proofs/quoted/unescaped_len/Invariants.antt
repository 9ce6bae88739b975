use Rattle.std.proofs.Common.{◌≡◌, ◌≤◌, ◌+◌, drop, length}
use Rattle.token_model.specs.Names.{unescaped}
use Rattle.token_cursor.proofs.Unescaping.{unescaped_from}
use Rattle.token_cursor.proofs.quoted.unescaped_len.Given as goal

abbrev pub invariant-loop-b : goal.invariant-loop-b
invariant-loop-b l = record { so_far : length (unescaped l.inside) ≡ l.len + length (unescaped_from l.marked (drop l.b-index l.inside)); small : l.len ≤ l.b-index }
