use Rattle.std.proofs.Common.{◌∙◌, ap, sym}
use Rattle.clause_meaning.specs.Known.{list_before}
use Rattle.clause_meaning.proofs.Rests.{last_before}
use Rattle.clause_meaning.proofs.lists.list_before.Goals as goal

pub loop-element-preserved : goal.loop-element-preserved
loop-element-preserved c =
    c.loop-element.invariant ∙ ap (λ ts. list_before ts c.loop-element.list) c.in-Some.ensures
    ∙ last_before c.pop.new.self c.in-Some.element c.loop-element.list ∙ ap (list_before c.pop.new.self) (sym c.in_ok-list.ensures)
