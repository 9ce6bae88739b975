use Rattle.std.proofs.Common.{◌≡◌, List, [], drop, ap, ◌∙◌, sym, arith}
use Rattle.std.specs.List.{filter}
use Rattle.std.proofs.lemmas.List.{drop_all}
use Rattle.clp_model.specs.Clauses.{Row}
use Rattle.clp_model.specs.Predicates.{distinct_after}
use Rattle.linear_model.specs.Normal.{row_eq}
use Rattle.linear_model.specs.Elimination.{cleaned}
use Rattle.clause_store.proofs.RowForms.{is_open, clean_more, cleaned_kept, clean_result}
use Rattle.clause_store.proofs.rows.cleaned.Goals as goal

pub loop-row-preserved : goal.loop-row-preserved
loop-row-preserved c =
    clean_more c.args.rows.now c.loop-row.kept c.add_copy.new.self c.loop-row.row-index c.row-item.result (omega arith) c.row-item.is c.in_ok-add_copy.ensures.value
    ∙ c.loop-row.invariant

pub returns : goal.returns
returns c =
    let rest : drop c.loop-row.row-index c.args.rows.now ≡ [] = drop_all c.loop-row.row-index c.args.rows.now (omega arith) in
    let is : c.loop-row.kept ≡ cleaned c.args.rows.now =
    ap (λ (rs : List Row). distinct_after row_eq c.loop-row.kept (filter is_open rs)) (sym rest) ∙ (c.loop-row.invariant ∙ sym (cleaned_kept c.args.rows.now c.requires)) in
    clean_result c.into_rows.result c.loop-row.kept (cleaned c.args.rows.now) is c.into_rows.ensures.value
