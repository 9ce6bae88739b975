use Rattle.std.proofs.Common.{ℕ, List, ap, ◌∙◌}
use Rattle.clp_model.specs.declared.tree.Variable.{Variable}
use Rattle.clp_model.specs.declared.tree.Tree.{Tree}
use Rattle.term_store.proofs.Keeping.{keeps_refl}
use Rattle.fold_model.specs.Positions.{at_positions}
use Rattle.clause_fold.proofs.MatchedAtoms.{chosen_in, is_matched, are_small, none_is, copied_in, copied_are, matching_as, no_matching_as, if_some_so, if_none_so}
use Rattle.clause_fold.proofs.matching.matched.Goals as goal

pub copy_all-requires-2 : goal.copy_all-requires-2
copy_all-requires-2 c =
    chosen_in c.args.store.now c.args.n.now c.args.c.now c.args.at.now c.requires.definition c.requires.clause c.requires.positions
    c.as_slice-3.result.now c.as_slice-2.result.now c.as_slice-2.ensures (c.as_slice-3.ensures ∙ c.in_ok-atoms.ensures 0)

pub matching-requires-clause-patterns : goal.matching-requires-clause-patterns
matching-requires-clause-patterns c = copied_in c.copy_all.new.self c.copy_all-2.new.self c.in_ok-patterns.patterns c.as_slice-4.result.now _ c.in_ok-patterns.ensures.made c.copy_all-2.ensures.keeps c.as_slice-4.ensures

pub returns-clause-some : goal.returns-clause-some
returns-clause-some c =
    let store = c.args.store.now in
    let new = c.copy_all-2.new.self in
    let ps = copied_are store c.copy_all.new.self new c.in_ok-patterns.patterns c.as_slice-4.result.now c.as_slice.result.now c.args.n.now.atoms c.in_ok-patterns.ensures.made c.copy_all-2.ensures.keeps c.as_slice-4.ensures c.as_slice.ensures in
    let ts = copied_are store new new c.in_ok-targets.targets c.as_slice-5.result.now c.as_slice-3.result.now (at_positions 0 c.args.c.now.atoms c.args.at.now) c.in_ok-targets.ensures.made (keeps_refl new) c.as_slice-5.ensures
    (c.as_slice-3.ensures ∙ c.in_ok-atoms.ensures 0 ∙ ap (λ (xs : List ℕ). at_positions 0 xs c.args.at.now) c.as_slice-2.ensures) in
    if_some_so c.matching.result _ _
    (λ s h. is_matched store c.args.n.now c.args.c.now c.args.at.now c.requires.definition c.requires.clause c.requires.positions new s (matching_as _ _ _ _ _ ps ts h))
    c.matching.ensures.some

pub returns-clause-small : goal.returns-clause-small
returns-clause-small c =
    let store = c.args.store.now in
    let new = c.copy_all-2.new.self in
    let ps = copied_are store c.copy_all.new.self new c.in_ok-patterns.patterns c.as_slice-4.result.now c.as_slice.result.now c.args.n.now.atoms c.in_ok-patterns.ensures.made c.copy_all-2.ensures.keeps c.as_slice-4.ensures c.as_slice.ensures in
    let ts = copied_are store new new c.in_ok-targets.targets c.as_slice-5.result.now c.as_slice-3.result.now (at_positions 0 c.args.c.now.atoms c.args.at.now) c.in_ok-targets.ensures.made (keeps_refl new) c.as_slice-5.ensures
    (c.as_slice-3.ensures ∙ c.in_ok-atoms.ensures 0 ∙ ap (λ (xs : List ℕ). at_positions 0 xs c.args.at.now) c.as_slice-2.ensures) in
    if_some_so c.matching.result _ _
    (λ s h. are_small store c.args.n.now c.args.c.now c.args.at.now c.requires.definition c.requires.clause c.requires.positions new s (matching_as _ _ _ _ _ ps ts h))
    c.matching.ensures.some

pub returns-clause-none : goal.returns-clause-none
returns-clause-none c =
    let store = c.args.store.now in
    let new = c.copy_all-2.new.self in
    let ps = copied_are store c.copy_all.new.self new c.in_ok-patterns.patterns c.as_slice-4.result.now c.as_slice.result.now c.args.n.now.atoms c.in_ok-patterns.ensures.made c.copy_all-2.ensures.keeps c.as_slice-4.ensures c.as_slice.ensures in
    let ts = copied_are store new new c.in_ok-targets.targets c.as_slice-5.result.now c.as_slice-3.result.now (at_positions 0 c.args.c.now.atoms c.args.at.now) c.in_ok-targets.ensures.made (keeps_refl new) c.as_slice-5.ensures
    (c.as_slice-3.ensures ∙ c.in_ok-atoms.ensures 0 ∙ ap (λ (xs : List ℕ). at_positions 0 xs c.args.at.now) c.as_slice-2.ensures) in
    if_none_so c.matching.result _ _
    (λ h. none_is store c.args.n.now c.args.c.now c.args.at.now c.requires.definition c.requires.clause c.requires.positions (no_matching_as _ _ _ _ ps ts h))
    c.matching.ensures.none
