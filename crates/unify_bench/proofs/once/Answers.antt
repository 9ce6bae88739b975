use Rattle.std.proofs.Common.{subst, IfSome}
use Rattle.substitution.specs.Weights.{IsOf}
use Rattle.substitution.proofs.Kept.{is_of_kept}
use Rattle.unify_bench.proofs.once.Goals as goal

pub apply-requires-clause-of : goal.apply-requires-clause-of
apply-requires-clause-of c =
    is_of_kept c.args.es.now.store c.var.new.self c.in_ok-t.ensures.keeps c.in-Some.s
    (subst (λ r. IfSome r (λ s. IsOf c.args.es.now.store s)) c.in-Some.is c.in_ok-s.ensures.of)
