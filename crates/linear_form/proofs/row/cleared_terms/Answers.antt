use Rattle.std.proofs.Common.{rules, FitsSigned, ◌∙◌}
use mir.Syntax.{w128}
use Rattle.std.proofs.lemmas.Int.{to_z-of_z}
use Rattle.linear_form.proofs.Clearing.{clearing_goes_on, not_bounded}
use Rattle.linear_form.proofs.row.cleared_terms.Goals as goal

pub returns-in-None-clause-fault : goal.returns-in-None-clause-fault
returns-in-None-clause-fault c = λ f h.
    let n = c.in-None.ensures.none in
    (cc, not_bounded c.args.common c.loop-i.i c.args.terms.now.entries c.term_at-variable.result c.term_at-variable.ensures.value n.0 n.1)

pub loop-i-preserved : goal.loop-i-preserved
loop-i-preserved c =
    let f : FitsSigned w128 c.in-Some.number = search rules in
    clearing_goes_on c.push.new.self.items c.loop-i.pairs.items _ c.args.common c.loop-i.i c.args.terms.now.entries c.term_at-variable.result _
    c.term_at-variable.ensures.value (to_z-of_z w128 c.in-Some.number f ∙ c.in-Some.ensures.some) c.in_ok-push-in-Some.ensures.items c.loop-i.invariant
