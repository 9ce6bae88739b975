use Rattle.std.proofs.Common.{◌∙◌, sym, ap}
use Rattle.std.proofs.lemmas.Result.{err_from_is_err_and}
use Rattle.clause_model.specs.Load.{made_of}
use Rattle.clause_store.specs.Source.{meaning_of}
use Rattle.clause_store.specs.Stored.{raw_in}
use Rattle.substitution.specs.Weights.{images}
use Rattle.clause_loader.specs.Carried.{clause_by}
use Rattle.clause_loader.proofs.Loads.{loads, made_as, fault_as, refused_as}
use Rattle.clause_loader.proofs.loading.solved_clause.Goals as goal

pub returns-in_err-raw-clause-refused : goal.returns-in_err-raw-clause-refused
returns-in_err-raw-clause-refused c =
    let m = meaning_of c.args.source.now in
    let f = images c.args.store.now c.args.s.now in
    let p = err_from_is_err_and c.from_residual.result c.from_residual.ensures.1 in
    let fault = fault_as c.in_err-raw.field-0.0 m (clause_by f m) (loads f m c.requires.small c.requires.solved) c.in_err-raw.ensures.refused in
    rw (p.1, p.2) fault

pub returns-clause-made : goal.returns-clause-made
returns-clause-made c =
    let m = meaning_of c.args.source.now in
    let f = images c.args.store.now c.args.s.now in
    made_as c.canonical.result c.canonical.new.store m (raw_in c.carried.new.store c.in_ok-raw.raw)
    (loads f m c.requires.small c.requires.solved ∙ ap made_of (sym c.in_ok-raw.ensures.same)) c.canonical.ensures.made

pub returns-clause-refused : goal.returns-clause-refused
returns-clause-refused c =
    let m = meaning_of c.args.source.now in
    let f = images c.args.store.now c.args.s.now in
    refused_as c.canonical.result m (raw_in c.carried.new.store c.in_ok-raw.raw)
    (loads f m c.requires.small c.requires.solved ∙ ap made_of (sym c.in_ok-raw.ensures.same)) c.canonical.ensures.past
