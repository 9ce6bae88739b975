use Rattle.std.proofs.Common.{refl, sym, subst}
use Rattle.command_model.specs.declared.status.Status.TheVariants as status
use Rattle.command_model.specs.Lines.{usage_line}
use Rattle.command_model.specs.Plan.{plan_of}
use Rattle.command_model.specs.Causes.{LeadsTo}
use Rattle.map_main.specs.Endings.Ends.{answers}
use Rattle.map_main.proofs.run.answer.Goals as goal

pub returns-in-None-clause-ends : goal.returns-in-None-clause-ends
returns-in-None-clause-ends g c =
    answers status.Usage usage_line (subst (λ k. LeadsTo (g.H.Shelf.files c.args.shelf.now) (plan_of k) status.Usage usage_line) (sym c.in-None.ensures.none) (refl, refl)) refl _ c.write.ensures
