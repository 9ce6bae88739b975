use Rattle.std.proofs.Common.{◌∙◌, inr}
use Rattle.std.proofs.lemmas.Result.{err_from_is_err_and}
use Rattle.map_state.specs.Seen.{state_of, entry_in}
use Rattle.rules_unfold.proofs.Unfolded.{unfolds, no_atom, not_unfolded, range_is, if_ok_so}
use Rattle.rules_unfold.proofs.unfolding.prepare.Goals as goal

pub returns-then-not-in_range-clause-refused : goal.returns-then-not-in_range-clause-refused
returns-then-not-in_range-clause-refused c =
    let store = c.args.state.now.store in
    let e = c.in-Some.entry.now in
    inr (no_atom (state_of c.args.state.now) c.args.id c.args.at (entry_in store e) c.in-Some.ensures.value
    (range_is store e.clause.atoms c.args.at c.len.result c.in_range.result c.len.ensures c.in_range.ensures.value ∙ c.if-not-in_range.true))

pub returns-in_err-made-clause-refused : goal.returns-in_err-made-clause-refused
returns-in_err-made-clause-refused c =
    let store = c.args.state.now.store in
    let e = c.in-Some.entry.now in
    let p = err_from_is_err_and c.from_residual.result c.from_residual.ensures.1 in
    let fault = not_unfolded (state_of c.args.state.now) c.args.id c.args.at (entry_in store e) c.in-Some.ensures.value c.in_err-made.field-0.0
    (range_is store e.clause.atoms c.args.at c.len.result c.in_range.result c.len.ensures c.in_range.ensures.value ∙ c.if-not-in_range.false) c.in_err-made.ensures.refused in
    rw (p.1, p.2) fault

pub returns-clause-accepted : goal.returns-clause-accepted
returns-clause-accepted c =
    let store = c.args.state.now.store in
    let e = c.in-Some.entry.now in
    if_ok_so c.replacing.result _ _
    (λ change is. unfolds (state_of c.args.state.now) c.args.id c.args.at (entry_in store e) c.in-Some.ensures.value c.resolvents.new.scratch c.in_ok-made.made change
    (range_is store e.clause.atoms c.args.at c.len.result c.in_range.result c.len.ensures c.in_range.ensures.value ∙ c.if-not-in_range.false) c.in_ok-made.ensures.value is)
    c.replacing.ensures.ok
