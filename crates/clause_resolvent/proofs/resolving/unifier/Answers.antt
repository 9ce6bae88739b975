use Rattle.std.proofs.Common.{◌∙◌, List, ap, sym, subst}
use Rattle.unify_model.specs.Equations.{Equation}
use Rattle.unify_model.specs.Unifying.{most_general_unifier}
use Rattle.unify.specs.Unifiers.{Unifies}
use Rattle.substitution.specs.declared.subst.Subst.{Subst}
use Rattle.substitution.specs.Weights.{images}
use Rattle.clause_loader.proofs.Loads.{none_as}
use Rattle.clause_resolvent.proofs.JoinedParts.{head_low, if_ok_so}
use Rattle.clause_resolvent.proofs.ResolvedClause.{place_term, place_application, head_application, atoms_differ, terms_equated, some_so}
use Rattle.clause_resolvent.proofs.resolving.unifier.Goals as goal

pub have_same_predicate-requires-clause-left : goal.have_same_predicate-requires-clause-left
have_same_predicate-requires-clause-left c = place_term c.args.store.now c.args.c.now c.args.place c.body_atom-atom.result c.requires.first c.requires.place c.body_atom-atom.ensures

pub have_same_predicate-requires-clause-left_atom : goal.have_same_predicate-requires-clause-left_atom
have_same_predicate-requires-clause-left_atom c = place_application c.args.store.now c.args.c.now c.args.place c.body_atom-atom.result c.requires.first c.requires.place c.body_atom-atom.ensures

pub have_same_predicate-requires-clause-right_atom : goal.have_same_predicate-requires-clause-right_atom
have_same_predicate-requires-clause-right_atom c = head_application c.args.store.now c.args.e.now c.requires.second

pub returns-then-not-have_same_predicate-clause-none : goal.returns-then-not-have_same_predicate-clause-none
returns-then-not-have_same_predicate-clause-none c =
    atoms_differ c.args.store.now c.args.c.now c.args.e.now c.args.place c.requires.first c.requires.second c.requires.place c.body_atom-atom.result c.have_same_predicate.result
    c.body_atom-atom.ensures c.if-not-have_same_predicate.true c.have_same_predicate.ensures

pub copy-requires : goal.copy-requires
copy-requires c = place_term c.args.store.now c.args.c.now c.args.place c.body_atom-atom.result c.requires.first c.requires.place c.body_atom-atom.ensures

pub raised-requires-clause-low : goal.raised-requires-clause-low
raised-requires-clause-low c = head_low c.args.store.now c.args.e.now c.requires.second

pub returns-clause-some : goal.returns-clause-some
returns-clause-some c =
    let same = terms_equated c.args.store.now c.args.c.now c.args.e.now c.args.place c.requires.first c.requires.second c.requires.place c.copy.new.self c.raised.new.to c.in_ok-left.left c.in_ok-right.right
    c.body_atom-atom.result c.variable_count.result c.raised.ensures.keeps c.in_ok-left.ensures.made c.in_ok-right.ensures.made c.body_atom-atom.ensures c.variable_count.ensures.value in
    let P : Subst → List Equation → Type 0 = λ s es. Unifies es (images c.raised.new.to s) in
    if_ok_so c.unify.result _ _ (λ r h. some_so r _ _ (λ s u. subst (P s) same u) h) c.unify.ensures.some

pub returns-clause-none : goal.returns-clause-none
returns-clause-none c =
    let same = terms_equated c.args.store.now c.args.c.now c.args.e.now c.args.place c.requires.first c.requires.second c.requires.place c.copy.new.self c.raised.new.to c.in_ok-left.left c.in_ok-right.right
    c.body_atom-atom.result c.variable_count.result c.raised.ensures.keeps c.in_ok-left.ensures.made c.in_ok-right.ensures.made c.body_atom-atom.ensures c.variable_count.ensures.value in
    if_ok_so c.unify.result _ _ (λ r h. none_as r _ _ (λ m. ap most_general_unifier (sym same) ∙ m) h) c.unify.ensures.none
