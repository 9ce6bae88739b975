use Rattle.clause_store.specs.Stored.{clause_in}
use Rattle.clause_store.proofs.Equal.{closed_variants}
use Rattle.clause_store.proofs.variants.variant.Goals as goal

pub returns-clause-renamed : goal.returns-clause-renamed
returns-clause-renamed c =
    let store = c.args.store.now in
    closed_variants (clause_in store c.args.a.now) (clause_in store c.args.b.now) c.are_equal.result c.requires.first.canonical c.requires.second.canonical c.are_equal.ensures
