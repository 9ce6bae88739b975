-- Deleting a clause that another covers keeps the rank.
use Rattle.std.proofs.Common.{◌<◌, inl, inr, arith, ◌∙◌, ap, subst}
use Rattle.clp_rank.specs.Weight.{weight, weights}
use Rattle.clp_rank.specs.Ranked.{Setting, InstanceIn, Ranked}
use Rattle.clp_rank.specs.Rules.{Subsumed}
use Rattle.clp_rank.proofs.Splitting.{all_out}

pub subsuming_keeps : (s : Setting) (base live live' : s.Clause → Type 0) (k e : s.Clause) → Subsumed s live live' k e → Ranked s base live → Ranked s base live'
subsuming_keeps s base live live' k e u r = record {
  unmarked_head = λ c a body l m i. r.unmarked_head c a body (u.old c l) m i;
  unmarked_body = λ c a body l m i. r.unmarked_body c a body (u.old c l) m i;
  sound = λ c a body l i ps. r.sound c a body (u.old c l) i ps;
  carries = λ a p. let c = r.carries a p in
      elim (u.kept c.clause c.is_live) [
        | inl same ↦
            let made = u.made a c.body (subst (λ x. s.instance_of x a c.body) same c.instance) in
            let parts = all_out (InstanceIn s base) s.defined made.2 c.proofs in
            let lt : weights s.defined c.proofs < weight s.defined p = c.less (ap s.mark same ∙ u.marked) in
            record { clause = e; is_live = u.stays; body = made.0; instance = made.3; proofs = parts.left; no_more = omega (arith, parts.sum); less = λ _. omega (arith, parts.sum) }
        | inr l ↦ record { clause = c.clause; is_live = l; body = c.body; instance = c.instance; proofs = c.proofs; no_more = c.no_more; less = c.less }
      ];
}
