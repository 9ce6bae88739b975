use Rattle.std.proofs.Common.{Err, ap, ◌∙◌}
use Rattle.clp_model.proofs.Membership.{from_among}
use Rattle.lin_row.specs.Rows.{at}
use Rattle.clause_laws.proofs.NewClause.{written_within}
use Rattle.clause_store.proofs.table.renamed_row.Goals as goal

-- two variables never become one, so that the row stays in range
pub unreachable-requires : goal.unreachable-requires
unreachable-requires c =
    let row = c.args.row.now in
    let kept = c.requires.kept in
    let within = written_within (at c.args.table.now) row kept.normal (λ m n a b e. c.requires.apart m n (from_among a) (from_among b) e) kept.within in
    let outside = c.rename.ensures.overflow (c.in-Err-Overflow.is ∙ ap Err c.in-Err-Overflow.field-0-is) in
    absurd (cc (within, outside))
