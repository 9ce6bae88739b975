use Rattle.std.proofs.Common.{◌∙◌, ap, sym}
use Rattle.lin_row.specs.Rows.{at}
use Rattle.clause_model.specs.Canonical.{all_within}
use Rattle.clause_loader.proofs.Tables.{written_as, renamed_as, if_ok_rows}
use Rattle.replace_model.specs.Rows.{replacing}
use Rattle.rules_rows.proofs.Agreeing.{agreeing}
use Rattle.rules_rows.proofs.replacing.replaced_rows.Goals as goal

pub returns-in-Ok-clause-rows : goal.returns-in-Ok-clause-rows
returns-in-Ok-clause-rows c =
    let f = replacing c.args.var c.args.to in
    let agree = agreeing f c.in-Ok.table.items c.as_slice.result.now c.args.count c.args.rows.now c.as_slice.ensures.value c.in-Ok.ensures.places c.requires.numbered in
    if_ok_rows c.renamed_rows.result _ _ (written_as (at c.as_slice.result.now) f c.args.rows.now agree) c.renamed_rows.ensures.rows

pub returns-in-Ok-clause-overflow : goal.returns-in-Ok-clause-overflow
returns-in-Ok-clause-overflow c = λ h.
    let f = replacing c.args.var c.args.to in
    let agree = agreeing f c.in-Ok.table.items c.as_slice.result.now c.args.count c.args.rows.now c.as_slice.ensures.value c.in-Ok.ensures.places c.requires.numbered in
    ap all_within (sym (renamed_as (at c.as_slice.result.now) f c.args.rows.now agree)) ∙ c.renamed_rows.ensures.overflow h
