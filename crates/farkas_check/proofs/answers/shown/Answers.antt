use Rattle.std.proofs.Common.{Some, None, sym, ◌∙◌}
use Rattle.farkas_check.specs.Right.{IsRight}
use Rattle.farkas_check.proofs.Rightness.{faultless_is_right, right_is_faultless, right_entails, ok_where_none}
use Rattle.farkas_check.proofs.answers.shown.Goals as goal

pub returns-in-Some-clause-right : goal.returns-in-Some-clause-right
returns-in-Some-clause-right c =
    let rows = c.args.rows.now in
    let target = c.args.target.now in
    let cert = c.args.cert.now in
    let e = c.in-Some.ensures in
    ok_where_none (Some c.in-Some.fault) (IsRight rows target cert) (λ h. faultless_is_right rows target cert (sym e ∙ h)) (λ h. e ∙ right_is_faultless rows target cert h)

pub returns-in-None-clause-right : goal.returns-in-None-clause-right
returns-in-None-clause-right c =
    let rows = c.args.rows.now in
    let target = c.args.target.now in
    let cert = c.args.cert.now in
    let e = c.in-None.ensures in
    ok_where_none None (IsRight rows target cert) (λ h. faultless_is_right rows target cert (sym e)) (λ h. e ∙ right_is_faultless rows target cert h)

pub returns-in-None-clause-entailed : goal.returns-in-None-clause-entailed
returns-in-None-clause-entailed c =
    let rows = c.args.rows.now in
    let target = c.args.target.now in
    let cert = c.args.cert.now in
    let e = c.in-None.ensures in
    right_entails rows target cert (faultless_is_right rows target cert (sym e))
