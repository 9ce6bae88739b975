use Rattle.std.proofs.Common.{List, length, ap, ◌∙◌, sym, subst, arith}
use Rattle.std.proofs.lemmas.Result.{err_from_is_err_and}
use Rattle.clp_model.specs.declared.tree.Variable.{Variable}
use Rattle.clp_model.specs.declared.tree.Tree.{Tree}
use Rattle.unify_model.specs.Substituting.{substituted}
use Rattle.term_store.specs.Trees.{tree_at, trees_at, HaveTrees}
use Rattle.clause_store.proofs.Counts.{length_trees_at}
use Rattle.fold_model.specs.Positions.{replaced}
use Rattle.clause_fold.specs.Images.{image_of}
use Rattle.clause_fold.proofs.StoredParts.{few_atoms}
use Rattle.clause_fold.proofs.Lost.{head_places}
use Rattle.clause_fold.proofs.FoldedParts.{no_positions, nothing_folded, new_too_large, atoms_made}
use Rattle.clause_fold.proofs.folded.folded_atoms.Goals as goal

pub returns-then-is_empty-clause-made : goal.returns-then-is_empty-clause-made
returns-then-is_empty-clause-made c =
    let store = c.args.store.now in
    let P : List (Tree Variable) → Type 0 = HaveTrees c.copy_all.new.self c.in_ok-copy_all.field-0 in
    nothing_folded c.copy_all.new.self c.in_ok-copy_all.field-0 (substituted (image_of c.args.scratch.now c.args.images.now) (tree_at store c.args.n.now.head)) c.args.at.now (trees_at store c.args.c.now.atoms)
    (no_positions c.args.at.now (sym c.if-is_empty.true ∙ c.is_empty.ensures)) (subst P (ap (trees_at store) c.as_slice.ensures) c.in_ok-copy_all.ensures.made)

pub with_images-requires-clause-numbered : goal.with_images-requires-clause-numbered
with_images-requires-clause-numbered c = head_places c.args.store.now c.args.scratch.now c.args.n.now c.args.c.now c.args.images.now c.requires.definition c.requires.images

pub returns-in_err-atom-clause-large : goal.returns-in_err-atom-clause-large
returns-in_err-atom-clause-large c = λ h.
    let p = err_from_is_err_and c.from_residual-in_err-atom.result c.from_residual-in_err-atom.ensures.1 in
    let made = p.1 in
    let same = p.2 in
    let store = c.args.store.now in
    new_too_large (substituted (image_of c.args.scratch.now c.args.images.now) (tree_at store c.args.n.now.head)) store c.args.c.now.atoms c.args.at.now (sym c.if-is_empty.false ∙ c.is_empty.ensures) c.requires.positions
    (c.in_err-atom.ensures.large cc)

pub replaced-requires : goal.replaced-requires
replaced-requires c =
    let store = c.args.store.now in
    let few = few_atoms store c.args.c.now c.requires.clause in
    let a = ap length c.as_slice-3.ensures in
    let b = length_trees_at c.copy_all-2.new.self c.in_ok-atoms.atoms in
    let d = ap length c.in_ok-atoms.ensures.made.are in
    let e = length_trees_at store c.as_slice-2.result.now in
    let f = ap length c.as_slice-2.ensures in
    omega (arith, few, a, b, d, e, f)

pub returns-clause-made : goal.returns-clause-made
returns-clause-made c =
    let store = c.args.store.now in
    let new = c.copy_all-2.new.self in
    let P : List (Tree Variable) → Type 0 = HaveTrees new c.in_ok-atoms.atoms in
    atoms_made c.with_images.new.scratch new c.in_ok-atom.atom (substituted (image_of c.args.scratch.now c.args.images.now) (tree_at store c.args.n.now.head)) c.in_ok-atoms.atoms c.in_ok-replaced.field-0 c.args.at.now
    (trees_at store c.args.c.now.atoms) c.copy_all-2.ensures.keeps c.in_ok-atom.ensures.made (subst P (ap (trees_at store) c.as_slice-2.ensures) c.in_ok-atoms.ensures.made)
    (c.in_ok-replaced.ensures ∙ ap (replaced c.in_ok-atom.atom c.args.at.now) c.as_slice-3.ensures)
