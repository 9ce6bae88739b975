use Rattle.std.proofs.Common.{◌<◌, ◌≤◌, length, subst}
use Rattle.std.specs.Prelude.{All}
use Rattle.row_tests.proofs.table.renamed.Goals as goal

pub rename-requires : goal.rename-requires
rename-requires c =
    record { numbered = subst (All (λ p. (0 < p.0) × (p.0 ≤ length c.args.numbers.now))) c.pairs.ensures.value (c.is_numbered.ensures c.if-is_numbered.true) }
