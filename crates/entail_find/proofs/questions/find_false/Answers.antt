use Rattle.std.proofs.Common.{◌≡◌, sym, ap, ◌∙◌, subst, inr}
use Rattle.std.specs.Prelude.{Err}
use Rattle.std.proofs.lemmas.Result.{err_from_is_err_and}
use Rattle.linear_model.specs.Chain.{chain}
use Rattle.chain_laws.proofs.Starting.{satisfiable}
use Rattle.entail_find.specs.Answers.{IsFault, IsFalse, Answers, found_false}
use Rattle.entail_find.proofs.Beginning.{begun_is, starts_rising, starts_counted}
use Rattle.entail_find.proofs.Answering.{false_is, false_none, false_shows, false_fault}
use Rattle.entail_find.proofs.questions.find_false.Goals as goal

pub chain-requires : goal.chain-requires
chain-requires c =
    let rows = c.args.rows.now in
    let b = c.in_ok-items.ensures in
    let items = c.in_ok-items.items.items in
    let e = b.value ∙ sym (begun_is rows) in (starts_rising rows items b.rising e, starts_counted rows items b.rising e)

pub returns-in_err-item-clause-answer : goal.returns-in_err-item-clause-answer
returns-in_err-item-clause-answer c =
    let rows = c.args.rows.now in
    let f = c.in_err-item.field-0.0 in
    let e = c.in_ok-items.ensures.value ∙ sym (begun_is rows) in
    let h = subst (λ xs. IsFault (chain xs) f) e c.in_err-item.ensures.fault in
    let p = err_from_is_err_and c.from_residual-in_err-item.result c.from_residual-in_err-item.ensures.1 in
    let made = p.1 in
    let same = p.2 in
    let q : p.0 ≡ f = cc in
    subst (λ r. Answers r (found_false rows)) (sym (made ∙ ap Err q)) (false_fault rows f h)

pub returns-in_ok-part_without_target-in-Some-clause-answer :
    goal.returns-in_ok-part_without_target-in-Some-clause-answer
returns-in_ok-part_without_target-in-Some-clause-answer c =
    let rows = c.args.rows.now in
    let e = c.in_ok-items.ensures.value ∙ sym (begun_is rows) in
    let h = subst (λ r. IsFalse (chain c.in_ok-items.items.items) r) c.in-Some.is c.in_ok-item.ensures.value in
    let k = sym (ap chain e) ∙ h in
    inr (false_is rows c.in-Some.item c.in_ok-part_without_target-in-Some.field-0 k c.in_ok-part_without_target-in-Some.ensures)

pub returns-in_ok-part_without_target-in-Some-clause-right :
    goal.returns-in_ok-part_without_target-in-Some-clause-right
returns-in_ok-part_without_target-in-Some-clause-right c =
    let rows = c.args.rows.now in
    let e = c.in_ok-items.ensures.value ∙ sym (begun_is rows) in
    let h = subst (λ r. IsFalse (chain c.in_ok-items.items.items) r) c.in-Some.is c.in_ok-item.ensures.value in
    let k = sym (ap chain e) ∙ h in
    false_shows rows c.in-Some.item c.in_ok-part_without_target-in-Some.field-0 k c.in_ok-part_without_target-in-Some.ensures

pub returns-in-None-clause-answer : goal.returns-in-None-clause-answer
returns-in-None-clause-answer c =
    let rows = c.args.rows.now in
    let e = c.in_ok-items.ensures.value ∙ sym (begun_is rows) in
    let h = subst (λ r. IsFalse (chain c.in_ok-items.items.items) r) c.in-None.is c.in_ok-item.ensures.value in
    inr (false_none rows (sym (ap chain e) ∙ h))

pub returns-in-None-clause-right : goal.returns-in-None-clause-right
returns-in-None-clause-right c =
    let rows = c.args.rows.now in
    let e = c.in_ok-items.ensures.value ∙ sym (begun_is rows) in
    let h = subst (λ r. IsFalse (chain c.in_ok-items.items.items) r) c.in-None.is c.in_ok-item.ensures.value in
    satisfiable rows c.in_ok-items.ensures.rising (sym (ap chain e) ∙ h)
