use Rattle.std.proofs.Common.{ℕ, ◌<◌, [], subst, IfNone, IfSome, length}
use Rattle.clp_model.proofs.Membership.{Among}
use Rattle.unify_closure.specs.Closing.{NeverHold}
use Rattle.unify_closure.specs.Sorting.{NeverSolves, rep_of, latest}
use Rattle.unify_closure.specs.Reading.{IsOrder}
use Rattle.unify_closure.specs.Turns.{Closes}
use Rattle.unify_closure.proofs.Unifying.{never_mgu, never_solves, reads_mgu, are_stands, order_below}
use Rattle.unify_closure.proofs.solving.solve.Goals as goal

pub returns-in_default-clause-none : goal.returns-in_default-clause-none
returns-in_default-clause-none c =
    never_mgu c.args.nodes.now c.args.equations.now (subst (λ r. IfNone r (NeverHold c.args.nodes.now c.args.equations.now)) c.in_default.is c.in_ok-state.ensures.none)

pub returns-in_default-2-clause-none : goal.returns-in_default-2-clause-none
returns-in_default-2-clause-none c =
    never_mgu c.args.nodes.now c.args.equations.now
    (never_solves c.args.nodes.now c.in-Some.state c.args.equations.now (subst (λ r. IfSome r (λ s. Closes c.args.nodes.now s [] c.args.equations.now)) c.in-Some.is c.in_ok-state.ensures.some) c.in_ok-stands.stands.items c.in_ok-stands.ensures
    (subst (NeverSolves c.args.nodes.now) c.as_slice.ensures.value (subst (λ r. IfNone r (NeverSolves c.args.nodes.now c.as_slice.result.now)) c.in_default-2.is c.in_ok-order.ensures.none)))

pub returns-clause-some : goal.returns-clause-some
returns-clause-some c =
    reads_mgu c.args.nodes.now c.in-Some.state c.args.equations.now (subst (λ r. IfSome r (λ s. Closes c.args.nodes.now s [] c.args.equations.now)) c.in-Some.is c.in_ok-state.ensures.some) c.in_ok-stands.stands.items c.in_ok-stands.ensures
    c.requires.one c.in-Some-2.order.items
    (subst (λ st. IsOrder c.args.nodes.now (rep_of st) (latest c.in-Some-2.order.items)) c.as_slice.ensures.value
    (subst (λ r. IfSome r (λ order. IsOrder c.args.nodes.now (rep_of c.as_slice.result.now) (latest order.items))) c.in-Some-2.is c.in_ok-order.ensures.order))
    (subst (λ r. IfSome r (λ order. (p : ℕ) → p < length c.args.nodes.now → Among p (latest order.items))) c.in-Some-2.is c.in_ok-order.ensures.every)

pub returns-clause-places : goal.returns-clause-places
returns-clause-places c = record {
  count = c.in_ok-stands.ensures.count;
  stands = λ p lt.
      (are_stands c.args.nodes.now c.in-Some.state c.args.equations.now (subst (λ r. IfSome r (λ s. Closes c.args.nodes.now s [] c.args.equations.now)) c.in-Some.is c.in_ok-state.ensures.some)
      c.in_ok-stands.stands.items c.in_ok-stands.ensures p lt).0;
  order = order_below c.args.nodes.now (rep_of c.as_slice.result.now) c.in-Some-2.order.items
      (subst (λ r. IfSome r (λ order. IsOrder c.args.nodes.now (rep_of c.as_slice.result.now) (latest order.items))) c.in-Some-2.is c.in_ok-order.ensures.order);
}
