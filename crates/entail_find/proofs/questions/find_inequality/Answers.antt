use Rattle.std.proofs.Common.{subst}
use Rattle.linear_model.specs.Chain.{chain, begun_with}
use Rattle.entail_find.specs.Answers.{IsPart}
use Rattle.entail_find.proofs.Answering.{part_shows, none_shows}
use Rattle.entail_find.proofs.questions.find_inequality.Goals as goal

pub returns-in-Some-clause-right : goal.returns-in-Some-clause-right
returns-in-Some-clause-right c =
    let rows = c.args.rows.now in
    let target = c.args.target.now in
    let h = subst (IsPart (chain (begun_with rows target))) c.in-Some.is c.in_ok-part.ensures.value in (c.requires.inequality, part_shows rows target c.in-Some.part c.requires.inequality h)

pub returns-in-None-clause-right : goal.returns-in-None-clause-right
returns-in-None-clause-right c =
    let rows = c.args.rows.now in
    let target = c.args.target.now in
    let b = c.in_ok-part.ensures in
    let h = subst (IsPart (chain (begun_with rows target))) c.in-None.is b.value in
    none_shows rows target c.requires.inequality b.rows_rise b.target_rises h
