use Rattle.std.proofs.Common.{◌≡◌, sym, subst}
use Rattle.std.specs.Prelude.{IfErr}
use Rattle.std.proofs.lemmas.Result.{err_from_is_err_and}
use Rattle.linear_model.specs.Chain.{chain, begun_with}
use Rattle.entail_find.specs.Answers.{IsFault}
use Rattle.entail_find.proofs.Beginning.{starts_with_rising, starts_with_counted}
use Rattle.entail_find.proofs.questions.find_part.Goals as goal

pub chain-requires : goal.chain-requires
chain-requires c =
    let b = c.in_ok-items.ensures in
    let items = c.in_ok-items.items.items in (
      starts_with_rising c.args.rows.now items b.rows_rise c.args.target.now b.target_rises b.value,
      starts_with_counted c.args.rows.now items b.rows_rise c.args.target.now b.target_rises b.value,
    )

pub returns-in_err-item-clause-fault : goal.returns-in_err-item-clause-fault
returns-in_err-item-clause-fault c =
    let b = c.in_ok-items.ensures in
    let o = chain (begun_with c.args.rows.now c.args.target.now) in
    let e = c.in_err-item.field-0.0 in
    let h = subst (λ xs. IsFault (chain xs) e) b.value c.in_err-item.ensures.fault in
    let p = err_from_is_err_and c.from_residual-in_err-item.result c.from_residual-in_err-item.ensures.1 in
    let made = p.1 in
    let same = p.2 in
    let q : p.0 ≡ e = cc in
    subst (λ r. IfErr r (IsFault o)) (sym made) (subst (IsFault o) (sym q) h)
