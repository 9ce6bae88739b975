use Rattle.std.proofs.Common.{◌≤◌, length, arith}
use Rattle.clause_store.specs.Stored.{clause_in}
use Rattle.clause_store.proofs.Counts.{few_sorts}
use Rattle.rules_rows.proofs.equating.variable_count.Goals as goal

pub overflow_cast-result : goal.overflow_cast-result
overflow_cast-result c =
    let few : length c.args.c.now.sorts ≤ 256 = few_sorts (clause_in c.args._store.now c.args.c.now) c.requires.canonical.limits in
    let e = c.len.ensures in
    omega arith

pub returns-clause-small : goal.returns-clause-small
returns-clause-small c =
    let few : length c.args.c.now.sorts ≤ 256 = few_sorts (clause_in c.args._store.now c.args.c.now) c.requires.canonical.limits in
    let e = c.len.ensures in
    omega arith
