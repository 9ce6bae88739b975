use Rattle.std.proofs.Common.{sym, ap, ◌∙◌, ◌-◌, ◌<◌, List, ℕ, arith, get_or, length}
use Rattle.clp_model.specs.declared.tree.Tree.{Tree}
use Rattle.clp_model.specs.Trees.{mapped}
use Rattle.term_store.specs.Trees.{tree_at}
use Rattle.clause_store.specs.Stored.{number_of, atoms_at}
use Rattle.map_model.specs.SameTree.{same_tree}
use Rattle.map_model.specs.Merging.{atom_of}
use Rattle.rules_drop.proofs.SameTrees.{same_decided, atom_at_place, term_in, term_sorted}
use Rattle.rules_drop.proofs.merging.same_atoms.Goals as goal

pub same-requires-clause-left : goal.same-requires-clause-left
same-requires-clause-left c =
    let is = c.index-atoms-first.is ∙ ap (λ (xs : List ℕ). get_or xs (c.args.first - 1) c.index-atoms-first.result) c.as_slice-atoms.ensures in
    term_in c.args.store.now c.args.clause.now.atoms (c.args.first - 1) c.index-atoms-first.result c.requires.stored.parts.within.1 (omega (arith, c.requires.first.0, c.requires.first.1)) is

pub same-requires-clause-right : goal.same-requires-clause-right
same-requires-clause-right c =
    let is = c.index-atoms-second.is ∙ ap (λ (xs : List ℕ). get_or xs (c.args.second - 1) c.index-atoms-second.result) c.as_slice-atoms.ensures in
    term_in c.args.store.now c.args.clause.now.atoms (c.args.second - 1) c.index-atoms-second.result c.requires.stored.parts.within.1 (omega (arith, c.requires.second.0, c.requires.second.1)) is

pub returns : goal.returns
returns c =
    let store = c.args.store.now in
    let atoms = c.args.clause.now.atoms in
    let parts = c.requires.stored.parts in
    let first = c.index-atoms-first.is ∙ ap (λ (xs : List ℕ). get_or xs (c.args.first - 1) c.index-atoms-first.result) c.as_slice-atoms.ensures in
    let second = c.index-atoms-second.is ∙ ap (λ (xs : List ℕ). get_or xs (c.args.second - 1) c.index-atoms-second.result) c.as_slice-atoms.ensures in
    let near : c.args.first - 1 < length atoms = omega (arith, c.requires.first.0, c.requires.first.1) in
    let far : c.args.second - 1 < length atoms = omega (arith, c.requires.second.0, c.requires.second.1) in
    same_decided c.args.clause.now.sorts (tree_at store c.index-atoms-first.result) (tree_at store c.index-atoms-second.result) c.same.result
    (term_sorted c.args.clause.now.sorts store c.args.clause.now.head atoms (c.args.first - 1) c.index-atoms-first.result parts.sorted near first)
    (term_sorted c.args.clause.now.sorts store c.args.clause.now.head atoms (c.args.second - 1) c.index-atoms-second.result parts.sorted far second)
    c.same.ensures
    ∙ ap (λ (t : Tree ℕ). same_tree t (mapped number_of (tree_at store c.index-atoms-second.result))) (sym (atom_at_place store atoms (c.args.first - 1) c.index-atoms-first.result near first))
    ∙ ap (λ (t : Tree ℕ). same_tree (atom_of (atoms_at store atoms) c.args.first) t) (sym (atom_at_place store atoms (c.args.second - 1) c.index-atoms-second.result far second))
