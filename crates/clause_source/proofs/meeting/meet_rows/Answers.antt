use Rattle.std.proofs.Common.{ℕ, List, nat_eq, arith, ap, ◌∙◌, drop, ◌+◌}
use Rattle.clp_model.specs.Predicates.{distinct_after}
use Rattle.clause_model.specs.Variables.{rows_variables}
use Rattle.clause_store.proofs.Numbers.{rows_more}
use Rattle.clause_source.proofs.meeting.meet_rows.Goals as goal

pub loop-row-preserved : goal.loop-row-preserved
loop-row-preserved c =
    ap (λ (found : List ℕ). distinct_after nat_eq found (rows_variables (drop (c.loop-row.row-index + 1) c.args.rows.now))) c.in_ok-meet_row.ensures
    ∙ (rows_more c.args.rows.now c.loop-row.met c.loop-row.row-index c.row-item.result (omega arith) c.row-item.is ∙ c.loop-row.invariant)
