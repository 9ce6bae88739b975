use Rattle.std.proofs.Common.{◌≡◌, ◌∙◌, ℕ, List, subst, inl, inr}
use Rattle.std.proofs.lemmas.Result.{err_from_is_err_and}
use Rattle.clp_model.specs.declared.sort.Sort.{Sort}
use Rattle.clp_model.specs.declared.tree.Variable.{Variable}
use Rattle.clp_model.specs.declared.tree.Tree.{Tree}
use Rattle.term_store.specs.Trees.{HasTree, HaveTrees, IsTooLarge}
use Rattle.term_store.proofs.Keeping.{has_tree_kept}
use Rattle.substitution.specs.Weights.{images}
use Rattle.substitution.specs.Made.{IsPastAny}
use Rattle.substitution.proofs.Kept.{is_of_kept, same_images}
use Rattle.clause_store.specs.Source.{meaning_of}
use Rattle.clause_loader.specs.Carried.{with_images, all_with_images}
use Rattle.clause_loader.proofs.Loads.{same_new}
use Rattle.clause_loader.proofs.Parts.{are_parts}
use Rattle.clause_loader.proofs.carrying.carried_parts.Goals as goal

pub carried_terms-requires : goal.carried_terms-requires
carried_terms-requires c = record { of = is_of_kept c.args.store.now c.carried_term.new.store c.carried_term.ensures.keeps c.args.s.now c.requires.of }

pub returns-in_err-head-clause-large : goal.returns-in_err-head-clause-large
returns-in_err-head-clause-large c = λ h.
    let p = err_from_is_err_and c.from_residual.result c.from_residual.ensures.1 in
    let made = p.1 in
    let is_same = p.2 in
    let P : List Sort → Type 0 = λ v. IsTooLarge (with_images v (images c.args.store.now c.args.s.now) c.args.source.now.head) in
    inl (subst P c.as_slice-sorts.ensures (c.in_err-head.ensures.large cc))

pub returns-in_err-atoms-clause-large : goal.returns-in_err-atoms-clause-large
returns-in_err-atoms-clause-large c = λ h.
    let p = err_from_is_err_and c.from_residual-in_err-atoms.result c.from_residual-in_err-atoms.ensures.1 in
    let made = p.1 in
    let is_same = p.2 in
    let f = images c.args.store.now c.args.s.now in
    let same = same_images c.args.store.now c.carried_term.new.store c.carried_term.ensures.keeps c.args.s.now c.requires.of in
    let P : List Sort → Type 0 = λ v. IsPastAny (all_with_images v f c.args.source.now.atoms) in
    let Q : List (Tree ℕ) → Type 0 = λ v. IsPastAny (all_with_images c.as_slice-sorts.result.now f v) in
    let R : (Variable → Tree Variable) → Type 0 = λ g. IsPastAny (all_with_images c.as_slice-sorts.result.now g c.as_slice.result.now) in
    inr (subst P c.as_slice-sorts.ensures (subst Q c.as_slice.ensures (subst R same (c.in_err-atoms.ensures.large cc))))

head_has : (store : List (Tree Variable)) (head : ℕ) (f : Variable → Tree Variable) (t : Tree ℕ) (seen sorts : List Sort) → seen ≡ sorts → HasTree store head (with_images seen f t) → HasTree store head (with_images sorts f t)
head_has store head f t seen sorts e h = let P : List Sort → Type 0 = λ v. HasTree store head (with_images v f t) in subst P e h

atoms_have : (store : List (Tree Variable)) (atoms : List ℕ) (f g : Variable → Tree Variable) (ts us : List (Tree ℕ)) (seen sorts : List Sort) → g ≡ f → ts ≡ us → seen ≡ sorts → HaveTrees store atoms (all_with_images seen g ts) → HaveTrees store atoms (all_with_images sorts f us)
atoms_have store atoms f g ts us seen sorts e d k h =
    let P : (Variable → Tree Variable) → Type 0 = λ v. HaveTrees store atoms (all_with_images seen v ts) in
    let Q : List (Tree ℕ) → Type 0 = λ v. HaveTrees store atoms (all_with_images seen f v) in
    let R : List Sort → Type 0 = λ v. HaveTrees store atoms (all_with_images v f us) in
    subst R k (subst Q d (subst P e h))

pub returns-clause-raw : goal.returns-clause-raw
returns-clause-raw c =
    let mid = c.carried_term.new.store in
    let store = c.carried_terms.new.store in
    let s = c.args.source.now in
    let f = images c.args.store.now c.args.s.now in
    let same = same_images c.args.store.now mid c.carried_term.ensures.keeps c.args.s.now c.requires.of in
    are_parts store f s c.in_ok-head.head c.args.rows c.in_ok-atoms.atoms c.in_ok-sorts.sorts c.requires.formed c.requires.solved
    (has_tree_kept mid store c.in_ok-head.head (with_images s.sorts f s.head) c.carried_terms.ensures.keeps
    (head_has mid c.in_ok-head.head f s.head c.as_slice-sorts.result.now s.sorts c.as_slice-sorts.ensures c.in_ok-head.ensures.made))
    (atoms_have store c.in_ok-atoms.atoms f (images mid c.args.s.now) c.as_slice.result.now s.atoms c.as_slice-sorts.result.now s.sorts same c.as_slice.ensures c.as_slice-sorts.ensures c.in_ok-atoms.ensures.made)
    c.requires.rows c.requires.kept (c.in_ok-sorts.ensures ∙ c.as_slice-sorts.ensures)

pub returns-clause-same : goal.returns-clause-same
returns-clause-same c =
    let mid = c.carried_term.new.store in
    let store = c.carried_terms.new.store in
    let s = c.args.source.now in
    let f = images c.args.store.now c.args.s.now in
    let same = same_images c.args.store.now mid c.carried_term.ensures.keeps c.args.s.now c.requires.of in
    let one = has_tree_kept mid store c.in_ok-head.head (with_images s.sorts f s.head) c.carried_terms.ensures.keeps
    (head_has mid c.in_ok-head.head f s.head c.as_slice-sorts.result.now s.sorts c.as_slice-sorts.ensures c.in_ok-head.ensures.made) in
    let all = atoms_have store c.in_ok-atoms.atoms f (images mid c.args.s.now) c.as_slice.result.now s.atoms c.as_slice-sorts.result.now s.sorts same c.as_slice.ensures c.as_slice-sorts.ensures c.in_ok-atoms.ensures.made in
    same_new f (meaning_of s) _ _ c.args.rows c.in_ok-sorts.sorts one.is all.are c.requires.rows (c.in_ok-sorts.ensures ∙ c.as_slice-sorts.ensures)
