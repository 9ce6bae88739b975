use Rattle.std.proofs.Common.{◌≡◌, Some, None, sym, ◌∙◌, pos}
use Rattle.linear_model.specs.Certificates.{ShowsFalse}
use Rattle.linear_laws.proofs.Certificates.{shown_false}
use Rattle.farkas_check.proofs.Rightness.{faultless_shows_false, shows_false_faultless, ok_where_none}
use Rattle.farkas_check.proofs.answers.shown_false.Goals as goal

pub returns-in-Some-clause-right : goal.returns-in-Some-clause-right
returns-in-Some-clause-right c =
    let rows = c.args.rows.now in
    let part = c.args.part.now in
    let e = c.in-Some.ensures in
    ok_where_none (Some c.in-Some.fault) ((part.k ≡ pos 0) × ShowsFalse rows part) (λ h. faultless_shows_false rows part (sym e ∙ h)) (λ h. e ∙ shows_false_faultless rows part h.0 h.1)

pub returns-in-None-clause-right : goal.returns-in-None-clause-right
returns-in-None-clause-right c =
    let rows = c.args.rows.now in
    let part = c.args.part.now in
    let e = c.in-None.ensures in
    ok_where_none None ((part.k ≡ pos 0) × ShowsFalse rows part) (λ h. faultless_shows_false rows part (sym e)) (λ h. e ∙ shows_false_faultless rows part h.0 h.1)

pub returns-in-None-clause-unsatisfiable : goal.returns-in-None-clause-unsatisfiable
returns-in-None-clause-unsatisfiable c =
    let rows = c.args.rows.now in
    let part = c.args.part.now in
    let e = c.in-None.ensures in
    shown_false rows part (faultless_shows_false rows part (sym e)).1
