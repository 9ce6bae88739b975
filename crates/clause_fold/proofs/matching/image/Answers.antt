use Rattle.std.proofs.Common.{subst, sym, ◌∙◌, ap}
use Rattle.clp_model.specs.declared.tree.Variable.{Variable}
use Rattle.clp_model.specs.declared.tree.Tree.{Tree}
use Rattle.term_store.specs.Trees.{HasTree, IsTooLarge}
use Rattle.substitution.proofs.Kept.{is_of_kept, same_images}
use Rattle.clause_fold.proofs.MatchedAtoms.{image_there, not_too_large}
use Rattle.clause_fold.proofs.matching.image.Goals as goal

pub apply-requires-clause-of : goal.apply-requires-clause-of
apply-requires-clause-of c = is_of_kept c.args.scratch.now c.var.new.self c.in_ok-variable.ensures.keeps c.args.s.now c.requires.of

pub unreachable-requires : goal.unreachable-requires
unreachable-requires c =
    let is = image_there c.args.scratch.now c.var.new.self c.in_ok-variable.ensures.keeps c.args.s.now c.requires.of c.args.number c.args.sort c.in_ok-variable.variable c.in_ok-variable.ensures.made in
    let a = c.in-Err-TooLarge.is in
    let b = c.in-Err-TooLarge.field-0-is in
    not_too_large _ (c.requires.small (record { number = c.args.number; sort = c.args.sort })) (subst IsTooLarge is (c.apply.ensures.large cc))

pub returns-in-Ok-clause-made : goal.returns-in-Ok-clause-made
returns-in-Ok-clause-made c =
    let is = image_there c.args.scratch.now c.var.new.self c.in_ok-variable.ensures.keeps c.args.s.now c.requires.of c.args.number c.args.sort c.in_ok-variable.variable c.in_ok-variable.ensures.made in
    let P : Tree Variable → Type 0 = HasTree c.apply.new.store c.in-Ok.image in
    subst P is c.in-Ok.ensures.value
