use Rattle.std.proofs.Common.{ℕ, List, length, ap, ◌∙◌, sym, subst, arith}
use Rattle.lin_row.specs.Rows.{at}
use Rattle.clause_model.specs.Variables.{row_variables}
use Rattle.linear_model.specs.Normal.{normal}
use Rattle.linear_model.specs.Changes.{renamed}
use Rattle.clause_store.specs.Stored.{KeepsApart}
use Rattle.clause_store.proofs.Tables.{row_numbered, row_apart, row_written}
use Rattle.clause_store.proofs.table.renamed_rows.Goals as goal

pub renamed_row-requires-clause-numbered : goal.renamed_row-requires-clause-numbered
renamed_row-requires-clause-numbered c =
    row_numbered c.args.met.now c.args.rows.now c.requires.met c.loop-row.row-index c.row-item.result (omega arith) c.row-item.is
    c.args.count (length c.as_slice.result.now) (ap length c.as_slice.ensures.value ∙ c.in_ok-table.ensures.count) c.requires.within

pub renamed_row-requires-clause-apart : goal.renamed_row-requires-clause-apart
renamed_row-requires-clause-apart c =
    let P : List ℕ → Type 0 = λ table. KeepsApart (at table) (row_variables c.row-item.result) in
    subst P (sym c.as_slice.ensures.value)
    (row_apart c.args.met.now c.args.rows.now c.requires.met c.loop-row.row-index c.row-item.result (omega arith) c.row-item.is c.in_ok-table.table.items c.in_ok-table.ensures.places)

pub loop-row-preserved : goal.loop-row-preserved
loop-row-preserved c =
    row_written c.args.met.now c.args.rows.now c.requires.met c.loop-row.row-index c.row-item.result (omega arith) c.row-item.is c.in_ok-table.table.items c.in_ok-table.ensures.places
    c.loop-row.all c.push.new.self c.in_ok-renamed_row.field-0 c.loop-row.invariant c.in_ok-push.ensures.ok
    (c.in_ok-renamed_row.ensures ∙ ap (λ (table : List ℕ). normal (renamed (at table) c.row-item.result)) c.as_slice.ensures.value)
