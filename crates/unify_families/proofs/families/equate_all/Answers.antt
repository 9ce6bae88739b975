use Rattle.std.proofs.Common.{arith}
use Rattle.unify_families.proofs.Holding.{term_at}
use Rattle.unify_families.proofs.families.equate_all.Goals as goal

pub equate-requires-clause-right : goal.equate-requires-clause-right
equate-requires-clause-right c = term_at c.loop-b.es.store c.args.terms.now c.loop-b.b-index c.b-item.result c.loop-b.invariant.are (omega arith) c.b-item.is
