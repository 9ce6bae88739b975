use Rattle.std.proofs.Common.{subst, IfSome}
use Rattle.term_store.proofs.Keeping.{keeps_trans}
use Rattle.substitution.specs.Weights.{IsOf}
use Rattle.substitution.proofs.Kept.{is_of_kept}
use Rattle.unify_tests.proofs.families.last_is_first.Goals as goal

pub apply-requires-clause-of : goal.apply-requires-clause-of
apply-requires-clause-of c =
    is_of_kept c.in_ok-es.es.store c.var-2.new.self
    (keeps_trans c.in_ok-es.es.store c.var.new.self c.var-2.new.self c.in_ok-last.ensures.keeps c.in_ok-first.ensures.keeps) c.in-Some.s
    (subst (λ r. IfSome r (λ s. IsOf c.in_ok-es.es.store s)) c.in-Some.is c.in_ok-s.ensures.of)
