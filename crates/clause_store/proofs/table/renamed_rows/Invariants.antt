use Rattle.std.proofs.Common.{◌≡◌, map, take}
use Rattle.clp_model.specs.Canonical.{place_in}
use Rattle.clause_laws.proofs.Written.{written}
use Rattle.clause_store.proofs.table.renamed_rows.Given as goal

abbrev pub invariant-loop-row : goal.invariant-loop-row
invariant-loop-row l = l.all ≡ map (written (place_in l.met)) (take l.row-index l.rows)
