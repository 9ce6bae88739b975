use Rattle.std.proofs.lemmas.Result.{err_from_is_err_and}
use Rattle.substitution.proofs.Kept.{is_of_kept}
use Rattle.substitution.specs.Weights.{images}
use Rattle.substitution.proofs.Built.{if_ok_tree}
use Rattle.clause_loader.proofs.Growing.{stays_large, same_tree, large_images}
use Rattle.clause_loader.proofs.carrying.carried_term.Goals as goal

pub apply-requires-clause-of : goal.apply-requires-clause-of
apply-requires-clause-of c = is_of_kept c.args.store.now c.term_of.new.store c.in_ok-term.ensures.keeps c.args.s.now c.requires.of

pub returns-in_err-term-clause-large : goal.returns-in_err-term-clause-large
returns-in_err-term-clause-large c = λ h.
    let p = err_from_is_err_and c.from_residual.result c.from_residual.ensures.1 in
    let made = p.1 in
    let same = p.2 in
    stays_large c.args.sorts.now (images c.args.store.now c.args.s.now) c.args.tree.now (c.in_err-term.ensures.large cc)

pub returns-clause-made : goal.returns-clause-made
returns-clause-made c =
    if_ok_tree c.apply.result c.apply.new.store _ _
    (same_tree c.args.store.now c.term_of.new.store c.in_ok-term.ensures.keeps c.args.s.now c.requires.of c.args.sorts.now c.args.tree.now c.in_ok-term.term c.in_ok-term.ensures.made)
    c.apply.ensures.value

pub returns-clause-large : goal.returns-clause-large
returns-clause-large c = λ h.
    large_images c.args.store.now c.term_of.new.store c.in_ok-term.ensures.keeps c.args.s.now c.requires.of c.args.sorts.now c.args.tree.now c.in_ok-term.term c.in_ok-term.ensures.made (c.apply.ensures.large h)
