use Rattle.std.proofs.Common.{arith, subst}
use Rattle.std.proofs.lemmas.Result.{err_from_is_err_and}
use Rattle.clp_model.specs.declared.tree.Variable.{Variable}
use Rattle.clp_model.specs.declared.tree.Tree.{Tree}
use Rattle.term_store.specs.Trees.{HasTree, IsTooLarge}
use Rattle.term_store.proofs.Keeping.{keeps_trans, keeps_within}
use Rattle.substitution.specs.Weights.{images}
use Rattle.substitution.proofs.Kept.{is_of_kept}
use Rattle.substitution.proofs.Weighed.{item_in}
use Rattle.clause_resolvent.proofs.AppliedTerms.{same_term, applied_more, applied_end, past_item}
use Rattle.clause_resolvent.proofs.applying.applied_all.Goals as goal

pub apply-requires-clause-within : goal.apply-requires-clause-within
apply-requires-clause-within c =
    keeps_within c.args.store.now c.loop-term.store c.loop-term.invariant.keeps c.term-item.result
    (item_in c.args.store.now c.args.terms.now c.loop-term.term-index c.term-item.result (omega arith) c.term-item.is c.requires.within)

pub apply-requires-clause-of : goal.apply-requires-clause-of
apply-requires-clause-of c = is_of_kept c.args.store.now c.loop-term.store c.loop-term.invariant.keeps c.args.s.now c.requires.of

pub returns-in_err-one-clause-large : goal.returns-in_err-one-clause-large
returns-in_err-one-clause-large c = λ h.
    let p = err_from_is_err_and c.from_residual.result c.from_residual.ensures.1 in
    let made = p.1 in
    let is_same = p.2 in
    let within = item_in c.args.store.now c.args.terms.now c.loop-term.term-index c.term-item.result (omega arith) c.term-item.is c.requires.within in
    past_item (images c.args.store.now c.args.s.now) c.args.store.now c.args.terms.now c.loop-term.term-index c.term-item.result (omega arith) c.term-item.is
    (subst IsTooLarge (same_term c.args.store.now c.loop-term.store c.loop-term.invariant.keeps c.args.s.now c.requires.of c.term-item.result within) (c.in_err-one.ensures.large cc))

pub loop-term-preserved : goal.loop-term-preserved
loop-term-preserved c =
    let within = item_in c.args.store.now c.args.terms.now c.loop-term.term-index c.term-item.result (omega arith) c.term-item.is c.requires.within in
    let P : Tree Variable → Type 0 = HasTree c.apply.new.store c.in_ok-one.one in
    record {
      keeps = keeps_trans c.args.store.now c.loop-term.store c.apply.new.store c.loop-term.invariant.keeps c.apply.ensures.keeps;
      made = applied_more (images c.args.store.now c.args.s.now) c.args.store.now c.loop-term.store c.apply.new.store c.args.terms.now c.loop-term.all c.push.new.self c.loop-term.term-index c.in_ok-one.one c.term-item.result
          c.loop-term.invariant.made c.apply.ensures.keeps (omega arith) c.term-item.is
          (subst P (same_term c.args.store.now c.loop-term.store c.loop-term.invariant.keeps c.args.s.now c.requires.of c.term-item.result within) c.in_ok-one.ensures.value) c.in_ok-push.ensures.ok;
    }

pub returns-clause-made : goal.returns-clause-made
returns-clause-made c = applied_end (images c.args.store.now c.args.s.now) c.args.store.now c.loop-term.store c.args.terms.now c.loop-term.all c.loop-term.term-index c.loop-term-test.false c.loop-term.invariant.made
