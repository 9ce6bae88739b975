use Rattle.frac_model.specs.Reduced.{fraction}
use Rattle.frac128.proofs.Opposites.{opposite_kept}
use Rattle.frac128.proofs.frac.Frac.negated.Goals as goal

pub invariant_of-result : goal.invariant_of-result
invariant_of-result c =
    let i = c.self.inside in
    opposite_kept (fraction i.num i.den) c.opposite.result c.self.invariant.0 c.self.invariant.1 c.opposite.ensures.value c.opposite.ensures.small
