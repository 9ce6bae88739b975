use Rattle.std.proofs.Common.{◌∙◌, ap}
use Rattle.std.proofs.lemmas.Result.{err_from_is_err_and}
use Rattle.substitution.specs.Weights.{images}
use Rattle.clause_model.specs.Load.{made_of}
use Rattle.clause_store.specs.Stored.{clause_in}
use Rattle.clause_resolvent.proofs.ResolvedClause.{solved_is, unsolved_is, refused_resolvent, some_there, none_there}
use Rattle.clause_resolvent.proofs.resolving.resolvent.Goals as goal

pub returns-in_default-clause-value : goal.returns-in_default-clause-value
returns-in_default-clause-value c =
    let store = c.args.store.now in
    unsolved_is (clause_in store c.args.c.now) c.args.place (clause_in store c.args.e.now) (none_there c.in_ok-s.field-0 _ c.in_default.is c.in_ok-s.ensures.none)

pub returns-in_err-resolved-clause-refused : goal.returns-in_err-resolved-clause-refused
returns-in_err-resolved-clause-refused c =
    let store = c.args.store.now in
    let p = err_from_is_err_and c.from_residual-in_err-resolved.result c.from_residual-in_err-resolved.ensures.1 in
    let fault = refused_resolvent (images c.unifier.new.scratch c.in-Some.s) (clause_in store c.args.c.now) c.args.place (clause_in store c.args.e.now) c.in_err-resolved.field-0.0
    (some_there c.in_ok-s.field-0 _ c.in-Some.s c.in-Some.is c.in_ok-s.ensures.some) c.in_err-resolved.ensures.refused in
    rw (p.1, p.2) fault

pub returns-clause-value : goal.returns-clause-value
returns-clause-value c =
    let store = c.args.store.now in
    solved_is (images c.unifier.new.scratch c.in-Some.s) (clause_in store c.args.c.now) c.args.place (clause_in store c.args.e.now)
    (some_there c.in_ok-s.field-0 _ c.in-Some.s c.in-Some.is c.in_ok-s.ensures.some)
    ∙ ap made_of c.in_ok-resolved.ensures.made
