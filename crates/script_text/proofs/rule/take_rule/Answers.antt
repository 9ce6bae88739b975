use Rattle.std.proofs.Common.{Bool, None, if◌then◌else◌, ap, sym, ◌∙◌}
use Rattle.case_table.specs.Rules.{rule_case}
use Rattle.case_table.proofs.Found.{rule_case_is}
use Rattle.token_model.specs.Remaining.{spelling}
use Rattle.script_grammar.specs.Script.{rule_ahead}
use Rattle.script_text.proofs.rule.take_rule.Goals as goal

pub returns-then-sees-clause-value : goal.returns-then-sees-clause-value
unfolding rule_ahead
returns-then-sees-clause-value c =
    let r = c.args.reader.now.remaining in
    rule_case_is _ c.case_of.result c.case_of.ensures ∙ ap rule_case (c.text_of.ensures ∙ c.take.ensures.spelling)
    ∙ sym (ap (λ (b : Bool). if b then rule_case (spelling r) else None) (sym c.sees.ensures.value ∙ c.if-sees.true))
