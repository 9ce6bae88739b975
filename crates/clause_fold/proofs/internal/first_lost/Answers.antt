use Rattle.std.proofs.Common.{◌≡◌, ℕ, List, suc, ◌+◌, ◌<◌, length, drop, ap, sym, subst, ◌∙◌, arith}
use Rattle.std.proofs.lemmas.List.{drop_all}
use Rattle.clp_model.specs.declared.sort.Sort.{Sort}
use Rattle.clause_store.specs.Stored.{clause_in}
use Rattle.fold_model.specs.Images.{numbers_from}
use Rattle.fold_model.specs.Internal as spec
use Rattle.clause_fold.specs.Images.{image_by}
use Rattle.clause_fold.specs.Internal.{internal_among}
use Rattle.clause_fold.proofs.StoredParts.{few_variables}
use Rattle.clause_fold.proofs.Lost.{turn_here, turn_next}
use Rattle.clause_fold.proofs.internal.first_lost.Goals as goal

pub overflow_cast-number : goal.overflow_cast-number
overflow_cast-number c = let few = few_variables c.args.store.now c.args.n.now c.requires.definition in omega (arith, few, c.len-i-end.ensures, c.loop-i-test.true)

pub overflow_add-number : goal.overflow_add-number
overflow_add-number c = let few = few_variables c.args.store.now c.args.n.now c.requires.definition in omega (arith, few, c.len-i-end.ensures, c.loop-i-test.true)

pub returns-then-is_lost : goal.returns-then-is_lost
returns-then-is_lost c = λ xs are.
    let i = c.loop-i.i in
    let l = c.loop-i.invariant.left xs are in
    let within : i < length c.args.n.now.sorts = omega (arith, c.len-i-end.ensures, c.loop-i-test.true) in
    sym (turn_here (clause_in c.args.store.now c.args.n.now) (clause_in c.args.store.now c.args.c.now) (image_by c.args.scratch.now c.args.images.now) l.0 i (i + 1) within (omega arith) (c.is_lost.ensures.lost c.if-is_lost.true l.0 l.1)) ∙ l.2

pub loop-i-preserved : goal.loop-i-preserved
loop-i-preserved c =
    let i = c.loop-i.i in
    let within : i < length c.args.n.now.sorts = omega (arith, c.len-i-end.ensures, c.loop-i-test.true) in
    record {
      count = c.is_lost.ensures.count ∙ c.loop-i.invariant.count;
      left = λ xs are.
          let l = c.loop-i.invariant.left xs are in
          let p = c.is_lost.ensures.passed c.if-is_lost.false l.0 l.1 in
          (p.more, p.are, sym (turn_next (clause_in c.args.store.now c.args.n.now) (clause_in c.args.store.now c.args.c.now) (image_by c.args.scratch.now c.args.images.now) l.0 c.is_lost.new.taken i (i + 1) within (omega arith) p) ∙ l.2);
    }

pub returns : goal.returns
returns c = λ xs are.
    let n = clause_in c.args.store.now c.args.n.now in
    let l = c.loop-i.invariant.left xs are in
    ap (λ (ss : List Sort). spec.first_lost n (clause_in c.args.store.now c.args.c.now) (image_by c.args.scratch.now c.args.images.now) l.0 (internal_among n (numbers_from (suc c.loop-i.i) ss)))
    (sym (drop_all c.loop-i.i c.args.n.now.sorts (omega (arith, c.len-i-end.ensures, c.loop-i-test.false)))) ∙ l.2
