use Rattle.std.proofs.Common.{arith}
use Rattle.unify_families.proofs.Holding.{term_at}
use Rattle.unify_families.proofs.families.equate_each.Goals as goal

pub equate_all-requires-clause-left : goal.equate_all-requires-clause-left
equate_all-requires-clause-left c = term_at c.loop-a.es.store c.args.terms.now c.loop-a.a-index c.a-item.result c.loop-a.invariant.are (omega arith) c.a-item.is
