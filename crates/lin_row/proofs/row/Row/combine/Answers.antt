use Rattle.std.proofs.Common.{◌≡◌, ◌≤◌, sym, subst, ap, ◌∙◌, false, to_z, of_z, w64}
use Rattle.std.specs.Prelude.{All, unsigned_abs, IfOk}
use Rattle.linear_model.specs.Normal.{limit, normal, is_within}
use Rattle.linear_model.specs.Forms.{combination}
use Rattle.lin_row.specs.Rows.{row_of}
use Rattle.lin_row.proofs.Quotients.{row_small, made, sums_rise, same_64}
use Rattle.lin_row.proofs.row.Row.combine.Goals as goal

pub invariant_of-sums : goal.invariant_of-sums
invariant_of-sums c =
    let i = c.self.inside in
    let j = c.other.inside in
    record {
      a_small = subst (λ z. unsigned_abs z ≤ limit) (sym (same_64 c.args.a c.requires.a_small)) c.requires.a_small;
      b_small = subst (λ z. unsigned_abs z ≤ limit) (sym (same_64 c.args.b c.requires.b_small)) c.requires.b_small;
      first_small = subst (All (λ p. unsigned_abs p.1 ≤ limit)) (sym c.as_slice.ensures) (row_small (row_of i.rel i.pairs.items i.constant) c.self.invariant.within);
      second_small = subst (All (λ p. unsigned_abs p.1 ≤ limit)) (sym c.as_slice-2.ensures) (row_small (row_of j.rel j.pairs.items j.constant) c.other.invariant.within);
    }

pub reduced-requires : goal.reduced-requires
reduced-requires c =
    let r = c.self.inside in
    let s = c.other.inside in
    record {
      rising = sums_rise (to_z w64 (of_z w64 c.args.a)) (to_z w64 (of_z w64 c.args.b)) (row_of r.rel r.pairs.items r.constant) (row_of s.rel s.pairs.items s.constant)
          c.as_slice.result.now c.as_slice-2.result.now c.self.invariant c.other.invariant c.as_slice.ensures c.as_slice-2.ensures;
    }

pub returns-clause-value : goal.returns-clause-value
returns-clause-value c =
    let r = c.self.inside in
    let s = c.other.inside in
    let e = made c.args.rel c.args.a c.args.b (row_of r.rel r.pairs.items r.constant) (row_of s.rel s.pairs.items s.constant) c.as_slice.result.now c.as_slice-2.result.now c.product_sum-constant.result
    c.requires.a_small c.requires.b_small c.self.invariant.within c.other.invariant.within c.as_slice.ensures c.as_slice-2.ensures c.product_sum-constant.ensures in
    let f = ap (λ t. combination c.args.rel c.args.a t c.args.b (row_of s.rel s.pairs.items s.constant)) c.self.view_is in
    let g = ap (λ t. combination c.args.rel c.args.a c.args.self.now c.args.b t) c.other.view_is in
    subst (λ t. IfOk c.reduced.result (λ x. x ≡ normal t)) (e ∙ (f ∙ g)) c.reduced.ensures.value

pub returns-clause-overflow : goal.returns-clause-overflow
returns-clause-overflow c h =
    let r = c.self.inside in
    let s = c.other.inside in
    let e = made c.args.rel c.args.a c.args.b (row_of r.rel r.pairs.items r.constant) (row_of s.rel s.pairs.items s.constant) c.as_slice.result.now c.as_slice-2.result.now c.product_sum-constant.result
    c.requires.a_small c.requires.b_small c.self.invariant.within c.other.invariant.within c.as_slice.ensures c.as_slice-2.ensures c.product_sum-constant.ensures in
    let f = ap (λ t. combination c.args.rel c.args.a t c.args.b (row_of s.rel s.pairs.items s.constant)) c.self.view_is in
    let g = ap (λ t. combination c.args.rel c.args.a c.args.self.now c.args.b t) c.other.view_is in
    subst (λ t. is_within (normal t) ≡ false) (e ∙ (f ∙ g)) (c.reduced.ensures.overflow h)
