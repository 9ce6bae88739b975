use Rattle.std.proofs.Common.{arith}
use Rattle.clause_store.specs.Stored.{clause_in}
use Rattle.clause_store.proofs.Counts.{size_in, small_clause}
use Rattle.clause_store.proofs.clause.terms_size.Goals as goal

pub overflow_add-size : goal.overflow_add-size
overflow_add-size c =
    let d = c.args.c.now in
    omega (arith, size_in c.args.store.now d.head d.rows d.atoms d.sorts, small_clause (clause_in c.args.store.now d) c.requires.stored.canonical.limits, c.loop-atom.invariant.size, c.size-size-in-loop-atom.ensures.small)
