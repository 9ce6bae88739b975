use Rattle.std.proofs.Common.{List, ℕ, subst, sym, inr}
use Rattle.std.proofs.lemmas.Result.{err_from_is_err_and}
use Rattle.clp_model.specs.declared.tree.Variable.{Variable}
use Rattle.clp_model.specs.declared.tree.Tree.{Tree}
use Rattle.unify_model.specs.Substituting.{substituted_all}
use Rattle.term_store.specs.Trees.{trees_at, AreIn, HaveTrees}
use Rattle.term_store.proofs.Keeping.{keeps_in}
use Rattle.substitution.specs.Weights.{images}
use Rattle.substitution.specs.Made.{IsPastAny}
use Rattle.substitution.proofs.Kept.{is_of_kept}
use Rattle.clause_resolvent.proofs.AppliedTerms.{same_terms, head_and_atoms}
use Rattle.clause_resolvent.proofs.applying.applied_parts.Goals as goal

pub applied_all-requires-clause-of : goal.applied_all-requires-clause-of
applied_all-requires-clause-of c = is_of_kept c.args.store.now c.apply.new.store c.apply.ensures.keeps c.args.s.now c.requires.of

pub applied_all-requires-clause-within : goal.applied_all-requires-clause-within
applied_all-requires-clause-within c =
    let P : List ℕ → Type 0 = AreIn c.apply.new.store in
    subst P (sym c.as_slice.ensures) (keeps_in c.args.store.now c.apply.new.store c.apply.ensures.keeps c.args.raw.now.atoms c.requires.within.1)

pub returns-in_err-atoms-clause-large : goal.returns-in_err-atoms-clause-large
returns-in_err-atoms-clause-large c = λ h.
    let p = err_from_is_err_and c.from_residual-in_err-atoms.result c.from_residual-in_err-atoms.ensures.1 in
    let made = p.1 in
    let is_same = p.2 in
    let mid = c.apply.new.store in
    let Q : List ℕ → Type 0 = λ v. IsPastAny (substituted_all (images mid c.args.s.now) (trees_at mid v)) in
    inr (subst IsPastAny (same_terms c.args.store.now mid c.apply.ensures.keeps c.args.s.now c.requires.of c.args.raw.now.atoms c.requires.within.1)
    (subst Q c.as_slice.ensures (c.in_err-atoms.ensures.large cc)))

pub returns-clause-terms : goal.returns-clause-terms
returns-clause-terms c =
    let mid = c.apply.new.store in
    let new = c.applied_all.new.store in
    let atoms = c.in_ok-atoms.atoms in
    let P : List (Tree Variable) → Type 0 = HaveTrees new atoms in
    let Q : List ℕ → Type 0 = λ v. HaveTrees new atoms (substituted_all (images mid c.args.s.now) (trees_at mid v)) in
    head_and_atoms mid new c.in_ok-head.head atoms _ _ c.applied_all.ensures.keeps c.in_ok-head.ensures.value
    (subst P (same_terms c.args.store.now mid c.apply.ensures.keeps c.args.s.now c.requires.of c.args.raw.now.atoms c.requires.within.1)
    (subst Q c.as_slice.ensures c.in_ok-atoms.ensures.made))
