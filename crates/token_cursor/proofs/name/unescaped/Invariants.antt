use Rattle.std.proofs.Common.{◌≡◌, ◌++◌, drop}
use Rattle.token_model.specs.Names.{unescaped}
use Rattle.token_cursor.proofs.Unescaping.{unescaped_from}
use Rattle.token_cursor.proofs.name.unescaped.Given as goal

abbrev pub invariant-loop-b : goal.invariant-loop-b
invariant-loop-b l = unescaped l.inside ≡ l.name.items ++ unescaped_from l.marked (drop l.b-index l.inside)
