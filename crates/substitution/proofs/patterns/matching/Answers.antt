use Rattle.clp_model.specs.Trees.{variables_in}
use Rattle.std.proofs.Common.{◌≡◌, List, subst}
use Rattle.term_store.specs.Trees.{trees_at}
use Rattle.unify_model.specs.Substituting.{substituted_all}
use Rattle.unify_model.specs.Matching.{image_at_once}
use Rattle.substitution.specs.declared.bindings.Bound.{Bound}
use Rattle.substitution.specs.Bindings.{bound}
use Rattle.substitution.specs.Found.{IsMet}
use Rattle.substitution.specs.Weights.{images}
use Rattle.substitution.proofs.Meeting.{is_met, matching_found, matching_as}
use Rattle.substitution.proofs.patterns.matching.Goals as goal

pub returns-clause-some : goal.returns-clause-some
returns-clause-some c =
    let store = c.args.store.now in
    let ps = trees_at store c.args.patterns.now in
    let ts = trees_at store c.args.targets.now in
    let items = c.meet_all.new.found in
    matching_as ps ts (image_at_once (bound store items)) (images store c.in_ok-s.s) c.in_ok-s.ensures.images
    (let P : List Bound → Type 0 = λ old. IsMet store (variables_in ps) old items (λ f. substituted_all f ps ≡ ts) in
    matching_found store ps ts items (subst P (c.new-found.ensures) (is_met store (variables_in ps) c.new-found.result items (λ f. substituted_all f ps ≡ ts) c.in_ok-meet_all.field-0 (let q = c.if-not-branch.false in cc) c.in_ok-meet_all.ensures)))
