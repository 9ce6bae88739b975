-- Replacing a clause by one with the same instances keeps the rank.
use Rattle.std.proofs.Common.{inl, inr, sym, ◌∙◌, ap, subst}
use Rattle.clp_rank.specs.Ranked.{Setting, Ranked}
use Rattle.clp_rank.specs.Rules.{Keeps}

pub same_instances_keep : (s : Setting) (base live live' : s.Clause → Type 0) (k : s.Clause) → Keeps s live live' k → Ranked s base live → Ranked s base live'
same_instances_keep s base live live' k u r = record {
  unmarked_head = λ c a body l m i. elim (u.old c l) [ inl o ↦ r.unmarked_head c a body o m i | inr n ↦ r.unmarked_head k a body u.was (sym n.0 ∙ m) (n.1 a body i) ];
  unmarked_body = λ c a body l m i. elim (u.old c l) [ inl o ↦ r.unmarked_body c a body o m i | inr n ↦ r.unmarked_body k a body u.was (sym n.0 ∙ m) (n.1 a body i) ];
  sound = λ c a body l i ps. elim (u.old c l) [ inl o ↦ r.sound c a body o i ps | inr n ↦ r.sound k a body u.was (n.1 a body i) ps ];
  carries = λ a p. let c = r.carries a p in
      elim (u.kept c.clause c.is_live) [
        | inl same ↦
            let next = u.instead a c.body (subst (λ x. s.instance_of x a c.body) same c.instance) in
            record { clause = next.0; is_live = next.1; body = c.body; instance = next.3; proofs = c.proofs; no_more = c.no_more; less = λ m. c.less (ap s.mark same ∙ (sym next.2 ∙ m)) }
        | inr l ↦ record { clause = c.clause; is_live = l; body = c.body; instance = c.instance; proofs = c.proofs; no_more = c.no_more; less = c.less }
      ];
}
