use Rattle.std.proofs.Common.{refl}
use Rattle.clause_store.proofs.Equal.{sorts_decided}
use Rattle.clause_store.proofs.variants.same_sorts.Goals as goal

pub returns : goal.returns
returns c = sorts_decided _ refl refl refl refl c.eq.result c.args.a.now c.args.b.now c.eq.ensures
