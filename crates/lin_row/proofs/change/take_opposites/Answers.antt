use Rattle.std.proofs.Common.{pos, length, ap, refl, sym, ◌∙◌, neg_ℤ, ◌+◌, arith, subst, ◌≤◌, ◌<◌}
use Rattle.std.proofs.lemmas.List.{drop-set-lt, length-set}
use Rattle.std.proofs.lemmas.List.Elements.{All-get_or}
use Rattle.std.specs.Prelude.{unsigned_abs}
use Rattle.linear_model.specs.Normal.{limit}
use Rattle.lin_row.proofs.Opposites.{opposite_more, same_element, same_rest}
use Rattle.lin_row.proofs.change.take_opposites.Goals as goal

pub opposite-requires : goal.opposite-requires
opposite-requires c =
    let l = c.loop-i in
    let k = l.invariant in
    let h : l.i < length l.pairs = omega arith in
    let e = same_element l.pairs c.args.pairs.now l.i h k.same_length k.rest in
    record { small = subst (λ p. unsigned_abs p.1 ≤ limit) (sym e) (All-get_or (λ p. unsigned_abs p.1 ≤ limit) c.args.pairs.now l.i (0, pos 0) (omega arith) c.requires.small) }

pub loop-i-preserved : goal.loop-i-preserved
loop-i-preserved c =
    let l = c.loop-i in
    let k = l.invariant in
    let h : l.i < length l.pairs = omega arith in
    let e = same_element l.pairs c.args.pairs.now l.i h k.same_length k.rest in
    record {
      same_length = length-set l.pairs l.i c.opposite.result ∙ k.same_length;
      turned = opposite_more l.pairs _ c.args.pairs.now l.i c.opposite.result h k.same_length refl (c.opposite.ensures.value ∙ ap (λ p. (p.0, neg_ℤ p.1)) e) k.turned;
      rest = drop-set-lt (l.i + 1) l.pairs l.i c.opposite.result (omega arith) ∙ same_rest l.pairs c.args.pairs.now l.i h k.same_length k.rest;
    }
