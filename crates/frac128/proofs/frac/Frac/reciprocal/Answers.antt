use Rattle.frac_model.specs.Reduced.{fraction}
use Rattle.frac128.proofs.Reciprocals.{reciprocal_kept}
use Rattle.frac128.proofs.frac.Frac.reciprocal.Goals as goal

pub invariant_of-result : goal.invariant_of-result
invariant_of-result c =
    let i = c.self.inside in
    reciprocal_kept (fraction i.num i.den) c.args.self c.with_sign_of.result c.unsigned_abs.result c.self.view_is c.requires.nonzero
    c.self.invariant.0 c.self.invariant.1 c.with_sign_of.ensures c.unsigned_abs.ensures.value
