use Rattle.std.proofs.Common.{ap, ◌∙◌, subst}
use Rattle.std.specs.Prelude.{Some, None}
use Rattle.clp_model.specs.Clauses.{Row}
use Rattle.linear_model.specs.Forms.{IsRising}
use Rattle.linear_model.specs.Changes.{flipped}
use Rattle.linear_model.specs.Chain.{chain, begun_with}
use Rattle.entail_find.specs.Answers.{IsPart}
use Rattle.entail_find.proofs.Answering.{first_shows, second_shows, first_not, second_not}
use Rattle.entail_find.proofs.questions.find_equation.Goals as goal

pub returns-in_default-clause-right : goal.returns-in_default-clause-right
returns-in_default-clause-right c =
    let rows = c.args.rows.now in
    let target = c.args.target.now in
    let half = c.in_ok-half.ensures.value in
    let b = c.in_ok-first.ensures in
    let h = subst (IsPart (chain (begun_with rows c.in_ok-half.half))) c.in_default.is b.value in
    let k = subst (λ t. IsPart (chain (begun_with rows t)) None) half h in
    let r = subst (λ (t : Row). IsRising t.pairs) half b.target_rises in
    first_not rows target c.requires.equation b.rows_rise r k

pub returns-in-Some-2-clause-right : goal.returns-in-Some-2-clause-right
returns-in-Some-2-clause-right c =
    let rows = c.args.rows.now in
    let target = c.args.target.now in
    let half = c.in_ok-half.ensures.value in
    let other = c.flip-half.ensures.value ∙ ap flipped half in
    let h = subst (IsPart (chain (begun_with rows c.in_ok-half.half))) c.in-Some.is c.in_ok-first.ensures.value in
    let k = subst (λ t. IsPart (chain (begun_with rows t)) (Some c.in-Some.first)) half h in
    let i = subst (IsPart (chain (begun_with rows c.flip-half.result))) c.in-Some-2.is c.in_ok-second.ensures.value in
    let l = subst (λ t. IsPart (chain (begun_with rows t)) (Some c.in-Some-2.second)) other i in (c.requires.equation, first_shows rows target c.in-Some.first k, second_shows rows target c.in-Some-2.second l)

pub returns-in-None-clause-right : goal.returns-in-None-clause-right
returns-in-None-clause-right c =
    let rows = c.args.rows.now in
    let target = c.args.target.now in
    let half = c.in_ok-half.ensures.value in
    let other = c.flip-half.ensures.value ∙ ap flipped half in
    let b = c.in_ok-first.ensures in
    let i = subst (IsPart (chain (begun_with rows c.flip-half.result))) c.in-None.is c.in_ok-second.ensures.value in
    let l = subst (λ t. IsPart (chain (begun_with rows t)) None) other i in
    let r = subst (λ (t : Row). IsRising t.pairs) half b.target_rises in
    second_not rows target c.requires.equation b.rows_rise r l
