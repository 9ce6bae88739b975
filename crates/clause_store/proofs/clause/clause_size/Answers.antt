use Rattle.std.proofs.Common.{arith, ap}
use Rattle.clp_model.specs.Canonical.{rows_size}
use Rattle.clause_store.specs.Stored.{clause_in}
use Rattle.clause_store.proofs.Counts.{size_in, small_clause}
use Rattle.clause_store.proofs.clause.clause_size.Goals as goal

pub rows_size-requires : goal.rows_size-requires
rows_size-requires c =
    let d = c.args.c.now in
    omega (arith, size_in c.args.store.now d.head d.rows d.atoms d.sorts, small_clause (clause_in c.args.store.now d) c.requires.canonical.limits, ap rows_size c.as_slice.ensures)

pub overflow_add-result : goal.overflow_add-result
overflow_add-result c =
    let d = c.args.c.now in
    omega (arith, size_in c.args.store.now d.head d.rows d.atoms d.sorts, small_clause (clause_in c.args.store.now d) c.requires.canonical.limits, ap rows_size c.as_slice.ensures, c.terms_size.ensures.value, c.rows_size.ensures)

pub returns-clause-value : goal.returns-clause-value
returns-clause-value c =
    let d = c.args.c.now in
    omega (arith, size_in c.args.store.now d.head d.rows d.atoms d.sorts, ap rows_size c.as_slice.ensures, c.terms_size.ensures.value, c.rows_size.ensures)

pub returns-clause-small : goal.returns-clause-small
returns-clause-small c =
    let d = c.args.c.now in
    omega (arith, size_in c.args.store.now d.head d.rows d.atoms d.sorts, small_clause (clause_in c.args.store.now d) c.requires.canonical.limits, ap rows_size c.as_slice.ensures, c.terms_size.ensures.value, c.rows_size.ensures)
