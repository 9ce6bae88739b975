use Rattle.std.proofs.Common.{◌∙◌, sym, ap, subst}
use Rattle.std.proofs.lemmas.Result.{err_from_is_err_and}
use Rattle.clp_model.specs.declared.tree.Variable.{Variable}
use Rattle.clp_model.specs.declared.tree.Tree.{Tree}
use Rattle.unify.specs.Unifiers.{Unifies}
use Rattle.substitution.specs.Weights.{images}
use Rattle.substitution.proofs.Kept.{is_of_kept, same_images}
use Rattle.clause_model.specs.Solved.{typed_equations}
use Rattle.clause_model.specs.Canonical.{new_clause}
use Rattle.clause_store.specs.Stored.{clause_in, raw_in, IsRefused}
use Rattle.clause_loader.specs.Carried.{clause_by}
use Rattle.unfold_model.specs.Resolvent.{joined_clause}
use Rattle.clause_resolvent.proofs.JoinedParts.{if_ok_so}
use Rattle.clause_resolvent.proofs.ResolvedClause.{raw_in_store, raw_numbered, refused_by, made_raw, made_same, refused_so, if_err_so}
use Rattle.clause_resolvent.proofs.resolving.resolved.Goals as goal

pub applied-requires-clause-of : goal.applied-requires-clause-of
applied-requires-clause-of c = is_of_kept c.args.scratch.now c.joined.new.scratch c.joined.ensures.keeps c.args.s.now c.requires.of

pub applied-requires-clause-within : goal.applied-requires-clause-within
applied-requires-clause-within c = raw_in_store c.args.store.now c.args.c.now c.args.e.now c.args.place c.requires.first c.requires.second c.requires.place c.joined.new.scratch c.in_ok-raw.raw c.in_ok-raw.ensures.joined

pub applied-requires-clause-nums : goal.applied-requires-clause-nums
applied-requires-clause-nums c = raw_numbered c.args.store.now c.args.c.now c.args.e.now c.args.place c.requires.first c.requires.second c.requires.place c.joined.new.scratch c.in_ok-raw.raw c.in_ok-raw.ensures.joined

pub returns-in_err-made-clause-refused : goal.returns-in_err-made-clause-refused
returns-in_err-made-clause-refused c =
    let store = c.args.store.now in
    let j = joined_clause (clause_in store c.args.c.now) c.args.place (clause_in store c.args.e.now) in
    let mid = c.joined.new.scratch in
    let g = images mid c.args.s.now in
    let same = same_images c.args.scratch.now mid c.joined.ensures.keeps c.args.s.now c.requires.of in
    let x = c.in_err-made.field-0.0 in
    let P : (Variable → Tree Variable) → Type 0 = λ h. IsRefused (clause_by h j) x in
    let p = err_from_is_err_and c.from_residual-in_err-made.result c.from_residual-in_err-made.ensures.1 in
    let fault = subst P same (refused_by store c.args.c.now c.args.e.now c.args.place c.requires.first c.requires.second c.requires.place mid c.in_ok-raw.raw c.in_ok-raw.ensures.joined g x c.in_err-made.ensures.refused) in
    rw (p.1, p.2) fault

pub canonical-requires : goal.canonical-requires
canonical-requires c =
    let store = c.args.store.now in
    let j = joined_clause (clause_in store c.args.c.now) c.args.place (clause_in store c.args.e.now) in
    let mid = c.joined.new.scratch in
    let g = images mid c.args.s.now in
    let same = same_images c.args.scratch.now mid c.joined.ensures.keeps c.args.s.now c.requires.of in
    let P : (Variable → Tree Variable) → Type 0 = λ h. Unifies (typed_equations j.sorts j.equations) h in
    made_raw store c.args.c.now c.args.e.now c.args.place c.requires.first c.requires.second c.requires.place mid c.in_ok-raw.raw c.in_ok-raw.ensures.joined g
    c.applied.new.store c.in_ok-made.made c.in_ok-made.ensures.terms c.in_ok-made.ensures.rows c.in_ok-made.ensures.sorts (subst P (sym same) c.requires.solved)

pub returns-clause-made : goal.returns-clause-made
returns-clause-made c =
    let store = c.args.store.now in
    let j = joined_clause (clause_in store c.args.c.now) c.args.place (clause_in store c.args.e.now) in
    let mid = c.joined.new.scratch in
    let g = images mid c.args.s.now in
    let same = same_images c.args.scratch.now mid c.joined.ensures.keeps c.args.s.now c.requires.of in
    let e = made_same store c.args.c.now c.args.e.now c.args.place c.requires.first c.requires.second c.requires.place mid c.in_ok-raw.raw c.in_ok-raw.ensures.joined g
    c.applied.new.store c.in_ok-made.made c.in_ok-made.ensures.terms c.in_ok-made.ensures.rows c.in_ok-made.ensures.sorts ∙ ap (λ (h : Variable → Tree Variable). new_clause (clause_by h j)) same in
    if_ok_so c.canonical.result _ _ (λ r h. sym e ∙ h) c.canonical.ensures.made

pub returns-clause-refused : goal.returns-clause-refused
returns-clause-refused c =
    let store = c.args.store.now in
    let j = joined_clause (clause_in store c.args.c.now) c.args.place (clause_in store c.args.e.now) in
    let mid = c.joined.new.scratch in
    let g = images mid c.args.s.now in
    let same = same_images c.args.scratch.now mid c.joined.ensures.keeps c.args.s.now c.requires.of in
    let e = made_same store c.args.c.now c.args.e.now c.args.place c.requires.first c.requires.second c.requires.place mid c.in_ok-raw.raw c.in_ok-raw.ensures.joined g
    c.applied.new.store c.in_ok-made.made c.in_ok-made.ensures.terms c.in_ok-made.ensures.rows c.in_ok-made.ensures.sorts ∙ ap (λ (h : Variable → Tree Variable). new_clause (clause_by h j)) same in
    if_err_so c.canonical.result _ _ (λ x h. refused_so (raw_in c.applied.new.store c.in_ok-made.made) (clause_by (images c.args.scratch.now c.args.s.now) j) x e h) c.canonical.ensures.past
