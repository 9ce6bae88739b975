use Rattle.std.proofs.Common.{ℕ, List, length, sym, subst, arith}
use Rattle.std.proofs.lemmas.Result.{err_from_is_err_and}
use Rattle.std.proofs.lemmas.List.Elements.{All-push}
use Rattle.std.specs.Prelude.{All}
use Rattle.clp_model.specs.Clauses.{Row}
use Rattle.lin_row.specs.Rows.{at, IsKept}
use Rattle.clause_loader.specs.WellFormed.{IsNumber}
use Rattle.clause_loader.proofs.Tables.{rows_at, all_pairs, written_more, outside}
use Rattle.rules_rows.proofs.replacing.renamed_rows.Goals as goal

pub rename-requires : goal.rename-requires
rename-requires c =
    let P : ℕ → Type 0 = IsNumber (length c.args.table.now) in
    record { numbered = all_pairs P c.row-item.result (rows_at P c.args.rows.now c.loop-row.row-index c.row-item.result (omega arith) c.row-item.is c.requires) }

pub returns-in_err-row-clause-overflow : goal.returns-in_err-row-clause-overflow
returns-in_err-row-clause-overflow c = λ h.
    let p = err_from_is_err_and c.from_residual.result c.from_residual.ensures.1 in
    let made = p.1 in
    let same = p.2 in
    outside (at c.args.table.now) c.args.rows.now c.loop-row.row-index c.row-item.result (omega arith) c.row-item.is (c.in_err-row.ensures.overflow cc)

pub loop-row-preserved : goal.loop-row-preserved
loop-row-preserved c =
    let P : List Row → Type 0 = All IsKept in
    record {
      rows = written_more (at c.args.table.now) c.args.rows.now c.loop-row.all c.push.new.self c.loop-row.row-index c.row-item.result c.in_ok-row.row (omega arith) c.row-item.is c.loop-row.invariant.rows c.in_ok-row.ensures.value c.in-Ok.ensures.ok;
      kept = subst P (sym c.in-Ok.ensures.ok) (All-push IsKept c.loop-row.all c.in_ok-row.row c.loop-row.invariant.kept c.in_ok-row.ensures.kept);
    }
