use Rattle.std.proofs.Common.{◌≡◌, map, take, All}
use Rattle.lin_row.specs.Rows.{at, IsKept}
use Rattle.clause_loader.proofs.Tables.{written}
use Rattle.rules_rows.proofs.replacing.renamed_rows.Given as goal

abbrev pub invariant-loop-row : goal.invariant-loop-row
invariant-loop-row l = record {
  rows : l.all ≡ map (written (at l.table)) (take l.row-index l.rows);
  kept : All IsKept l.all;
}
