use Rattle.std.proofs.Common.{◌≡◌, ◌<◌, ◌^◌, rules, sym, ap, ◌∙◌, subst}
use Rattle.std.specs.Prelude.{None, Some, IfErr}
use Rattle.std.proofs.lemmas.Result.{err_from_is_err_and}
use Rattle.entail_find.specs.Answers.{IsFault}
use Rattle.linear_model.specs.Chain.{first_false, least_variable, chain}
use Rattle.entail_find.proofs.Chains.{above, goes_on, faulty, smaller, rising_on, counts_on, fault_carried}
use Rattle.entail_find.proofs.chain.chain.Goals as goal

pub returns-in_err-items-in-Some-least_variable-clause-fault :
    goal.returns-in_err-items-in-Some-least_variable-clause-fault
returns-in_err-items-in-Some-least_variable-clause-fault g c =
    let items = c.loop-place.items.items in
    let v = c.loop-place.invariant in
    let none = subst (λ xs. first_false xs ≡ None) c.deref.ensures.value c.in_default.ensures.none in
    let least = ap least_variable (sym c.deref-in-loop-place.ensures.value) ∙ sym c.in-Some-least_variable.ensures in
    let x = c.in-Some-least_variable.variable in
    let e = c.in_err-items-in-Some-least_variable.field-0.0 in
    let h = faulty items v.rising x e none least c.in_err-items-in-Some-least_variable.ensures.fault in
    let k = fault_carried (chain items) (chain c.args.items.items) e v.same h in
    let p = err_from_is_err_and c.from_residual.result c.from_residual.ensures.1 in
    let made = p.1 in
    let same = p.2 in
    let q : p.0 ≡ e = cc in
    subst (λ r. IfErr r (IsFault (chain c.args.items.items))) (sym made) (subst (IsFault (chain c.args.items.items)) (sym q) k)

pub loop-place-smaller : goal.loop-place-smaller
loop-place-smaller g c =
    let items = c.loop-place.items.items in
    let v = c.loop-place.invariant in
    let x = c.in-Some-least_variable.variable in
    let least : least_variable items ≡ Some x = ap least_variable (sym c.deref-in-loop-place.ensures.value) ∙ sym c.in-Some-least_variable.ensures in
    let fits : x < 2 ^ 32 = search rules in
    let s = smaller items v.rising x fits least in
    subst (λ left. above (least_variable left) < above (least_variable items)) (sym c.in_ok-items-in-Some-least_variable.ensures.value.0) s

pub loop-place-preserved : goal.loop-place-preserved
loop-place-preserved g c =
    let items = c.loop-place.items.items in
    let v = c.loop-place.invariant in
    let x = c.in-Some-least_variable.variable in
    let none = subst (λ xs. first_false xs ≡ None) c.deref.ensures.value c.in_default.ensures.none in
    let least = ap least_variable (sym c.deref-in-loop-place.ensures.value) ∙ sym c.in-Some-least_variable.ensures in
    let left = c.in_ok-items-in-Some-least_variable.items.items in
    let e = c.in_ok-items-in-Some-least_variable.ensures.value in
    record {
      rising = rising_on items v.rising x left e.0;
      counts = counts_on g.count x items left v.counts e.0;
      same = ap chain e.0 ∙ (sym (goes_on items v.rising x none least e.1 e.2) ∙ v.same);
    }
