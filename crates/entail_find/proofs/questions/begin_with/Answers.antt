use Rattle.std.proofs.Common.{◌+◌, length, refl, ap, ◌∙◌}
use Rattle.linear_model.specs.Changes.{negated}
use Rattle.entail_find.proofs.Beginning.{with_target}
use Rattle.entail_find.proofs.questions.begin_with.Goals as goal

pub returns-clause-value : goal.returns-clause-value
returns-clause-value c =
    let rows = c.args.rows.now in
    let f = c.negate-negated.ensures.value ∙ ap negated c.in_ok-copy.ensures.value in
    with_target rows c.args.target.now c.negate-negated.result (length rows + 1) (length rows + 1) c.in_ok-items.items.items c.push_row.new.items.items refl refl f c.in_ok-items.ensures.value c.in_ok-push_row.ensures.value
