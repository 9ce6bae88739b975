use Rattle.clause_store.proofs.Equal.{rows_decided}
use Rattle.clause_store.proofs.variants.same_rows.Goals as goal

pub returns : goal.returns
returns c = rows_decided c.eq.result c.args.a.now c.args.b.now c.eq.ensures
