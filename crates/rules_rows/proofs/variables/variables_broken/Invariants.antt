use Rattle.std.proofs.Common.{◌≡◌, drop}
use Rattle.clause_store.specs.Stored.{clause_in}
use Rattle.map_model.specs.Replacing.{variables_broken}
use Rattle.rules_rows.proofs.variables.variables_broken.Given as goal

abbrev pub invariant-loop-pair : goal.invariant-loop-pair
invariant-loop-pair l = variables_broken (clause_in l.store l.c) (drop l.pair-index l.pairs) ≡ variables_broken (clause_in l.store l.c) l.pairs
