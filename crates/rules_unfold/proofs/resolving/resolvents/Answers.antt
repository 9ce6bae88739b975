use Rattle.std.proofs.Common.{arith}
use Rattle.std.proofs.lemmas.Result.{err_from_is_err_and}
use Rattle.clause_store.specs.Stored.{clause_in}
use Rattle.map_state.specs.Seen.{state_of}
use Rattle.rules_unfold.proofs.Drafts.{turned, refused_at, whole}
use Rattle.rules_unfold.proofs.resolving.resolvents.Goals as goal

pub loop-by-preserved : goal.loop-by-preserved
loop-by-preserved c =
    let s = state_of c.args.state.now in
    let d = clause_in c.args.state.now.store c.args.c.now in
    let first = c.loop-by.invariant.first in
    record {
      all = c.in_ok-add.ensures.all;
      value = λ n. turned c.args.id d c.args.place s c.loop-by.by n _ _ first (omega (arith, c.next_id-by-end.ensures)) (c.loop-by.invariant.value n) (c.in_ok-add.ensures.value n);
      first = omega arith;
    }

pub returns-in_err-add-clause-refused : goal.returns-in_err-add-clause-refused
returns-in_err-add-clause-refused c =
    let s = state_of c.args.state.now in
    let d = clause_in c.args.state.now.store c.args.c.now in
    let first = c.loop-by.invariant.first in
    let p = err_from_is_err_and c.from_residual.result c.from_residual.ensures.1 in
    let fault = refused_at c.args.id d c.args.place s c.loop-by.by _ c.in_err-add.field-0.0 first (omega (arith, c.next_id-by-end.ensures)) c.loop-by.invariant.value c.in_err-add.ensures.refused in
    rw (p.1, p.2) fault

pub returns-clause-value : goal.returns-clause-value
returns-clause-value c = λ n.
    let s = state_of c.args.state.now in
    let d = clause_in c.args.state.now.store c.args.c.now in
    whole c.args.id d c.args.place s c.loop-by.by n _ (omega (arith, c.next_id-by-end.ensures)) (c.loop-by.invariant.value n)
