use Rattle.std.proofs.Common.{◌<◌, ◌+◌, ◌*◌, drop, sym, ◌∙◌, ap, subst}
use Rattle.linear_model.specs.Normal.{limit}
use Rattle.form_model.specs.Forms.{joint_den}
use Rattle.form_laws.proofs.Multiples.{lcm_positive}
use Rattle.linear_form.proofs.Multiples.{joint_goes_on, joint_is_past}
use Rattle.linear_form.proofs.row.joint_den.Goals as goal

pub returns-in-None-clause-none : goal.returns-in-None-clause-none
returns-in-None-clause-none c =
    let t = c.term_at-coefficient in
    joint_is_past c.loop-i.joint c.loop-i.i c.den.result _ c.args.terms.now.entries t.result t.ensures.value c.den.ensures.value c.loop-i.invariant.so_far
    (limit * limit) c.loop-i.invariant.positive (subst (λ k. 0 < k) (sym c.den.ensures.value) c.den.ensures.positive) c.requires.lowest c.in-None.ensures.none

pub loop-i-preserved : goal.loop-i-preserved
loop-i-preserved c =
    let t = c.term_at-coefficient in
    let s = c.in-Some.ensures.some in
    record {
      so_far = ap (λ n. joint_den n (drop (c.loop-i.i + 1) c.args.terms.now.entries)) s.0
          ∙ joint_goes_on c.loop-i.joint c.loop-i.i c.den.result _ c.args.terms.now.entries t.result t.ensures.value c.den.ensures.value c.loop-i.invariant.so_far;
      positive = subst (λ k. 0 < k) (sym s.0) (lcm_positive c.loop-i.joint c.den.result c.loop-i.invariant.positive (subst (λ k. 0 < k) (sym c.den.ensures.value) c.den.ensures.positive));
      bound = s.1;
    }
