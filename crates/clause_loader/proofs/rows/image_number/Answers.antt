use Rattle.clp_model.specs.declared.sort.Sort.{Sort}
use Rattle.std.proofs.Common.{subst}
use Rattle.substitution.proofs.Kept.{is_of_kept}
use Rattle.term_store.specs.Trees.{variable, HasTree}
use Rattle.clause_loader.proofs.Images.{variable_image, application_image, large_image}
use Rattle.clause_loader.proofs.rows.image_number.Goals as goal

pub apply-requires-clause-of : goal.apply-requires-clause-of
apply-requires-clause-of c = is_of_kept c.args.store.now c.var.new.self c.in_ok-variable.ensures.keeps c.args.s.now c.requires.of

pub returns-in-Var-clause-value : goal.returns-in-Var-clause-value
returns-in-Var-clause-value c =
    let P : Sort → Type 0 = λ so. HasTree c.var.new.self c.in_ok-variable.variable (variable c.args.number so) in
    variable_image c.args.store.now c.var.new.self c.in_ok-variable.ensures.keeps c.args.s.now c.requires.of c.args.sorts.now c.args.number c.in_ok-variable.variable
    (subst P c.sort_in.ensures.value c.in_ok-variable.ensures.made)
    c.apply.new.store c.in-Ok.image c.in-Var.image c.in-Var.field-1 c.in-Ok.ensures.value c.in-Var.ensures.shows

pub returns-in-App-clause-value : goal.returns-in-App-clause-value
returns-in-App-clause-value c =
    let P : Sort → Type 0 = λ so. HasTree c.var.new.self c.in_ok-variable.variable (variable c.args.number so) in
    application_image c.args.store.now c.var.new.self c.in_ok-variable.ensures.keeps c.args.s.now c.requires.of c.args.sorts.now c.args.number c.in_ok-variable.variable
    (subst P c.sort_in.ensures.value c.in_ok-variable.ensures.made)
    c.apply.new.store c.in-Ok.image _ _ c.in-Ok.ensures.value c.in-App.ensures.shows.0

pub returns-in-Err-TooLarge-clause-value : goal.returns-in-Err-TooLarge-clause-value
returns-in-Err-TooLarge-clause-value c =
    let P : Sort → Type 0 = λ so. HasTree c.var.new.self c.in_ok-variable.variable (variable c.args.number so) in
    let a = c.in-Err-TooLarge.is in
    let b = c.in-Err-TooLarge.field-0-is in
    large_image c.args.store.now c.var.new.self c.in_ok-variable.ensures.keeps c.args.s.now c.requires.of c.args.sorts.now c.args.number c.in_ok-variable.variable
    (subst P c.sort_in.ensures.value c.in_ok-variable.ensures.made)
    (c.in-Err-TooLarge.ensures.large cc)
