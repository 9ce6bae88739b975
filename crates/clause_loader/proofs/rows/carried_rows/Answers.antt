use Rattle.std.proofs.Common.{ℕ, List, map, sym, ◌∙◌, ap}
use Rattle.linear_model.specs.Changes.{renamed}
use Rattle.lin_row.specs.Rows.{at}
use Rattle.substitution.specs.Weights.{images}
use Rattle.clause_model.specs.Canonical.{all_within}
use Rattle.clause_loader.specs.Carried.{number_by}
use Rattle.clause_loader.proofs.Tables.{written, written_as, renamed_as, if_ok_rows}
use Rattle.clause_loader.proofs.rows.carried_rows.Goals as goal

pub returns-in-Ok-clause-rows : goal.returns-in-Ok-clause-rows
returns-in-Ok-clause-rows c =
    let f = number_by c.args.sorts.now (images c.args.store.now c.args.s.now) in
    let rows = c.args.rows.now in
    if_ok_rows c.renamed_rows.result (map (written (at c.as_slice.result.now)) rows) (map (written f) rows)
    (ap (λ (table : List ℕ). map (written (at table)) rows) c.as_slice.ensures.value ∙ written_as (at c.in-Ok.table.items) f rows c.in-Ok.ensures.noted)
    c.renamed_rows.ensures.rows

pub returns-in-Ok-clause-overflow : goal.returns-in-Ok-clause-overflow
returns-in-Ok-clause-overflow c = λ h.
    let f = number_by c.args.sorts.now (images c.args.store.now c.args.s.now) in
    let rows = c.args.rows.now in
    ap all_within (sym (ap (λ (table : List ℕ). map (renamed (at table)) rows) c.as_slice.ensures.value ∙ renamed_as (at c.in-Ok.table.items) f rows c.in-Ok.ensures.noted))
    ∙ c.renamed_rows.ensures.overflow h
