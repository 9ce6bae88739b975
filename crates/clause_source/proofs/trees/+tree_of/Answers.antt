use Rattle.std.proofs.Common.{List, [], ◌∷◌, ◌++◌, take, ap, ◌∙◌, sym, arith}
use Rattle.clp_model.specs.declared.tree.Tree.{Tree, App}
use Rattle.clp_model.specs.Trees.{mapped_all}
use Rattle.clp_model.specs.Canonical.{place_in}
use Rattle.term_store.specs.Trees.{tree_at, trees_at}
use Rattle.term_store.proofs.Keeping.{rest_in, rest_size}
use Rattle.clause_store.specs.Stored.{atoms_at}
use Rattle.clause_source.proofs.Numbered.{numbered_app, numbered_more}
use Rattle.clause_source.proofs.trees.+tree_of.Goals as goal

pub tree_of-returns-in_ok-trees_of-in-App : goal.tree_of-returns-in_ok-trees_of-in-App
tree_of-returns-in_ok-trees_of-in-App t c =
    let store = c.args.store.now in
    ap (λ name. App name c.in_ok-trees_of-in-App.field-0) c.in_ok-name-in-App.ensures
    ∙ (ap (App c.in-App.name.now) c.in_ok-trees_of-in-App.ensures
    ∙ sym (numbered_app c.args.met.now (tree_at store c.args.t) c.in-App.name.now (trees_at store c.in-App.args.now) c.in-App.ensures.shows.0))

pub trees_of-loop-term-preserved : goal.trees_of-loop-term-preserved
trees_of-loop-term-preserved t c =
    let store = c.args.store.now in
    let terms = c.args.terms.now in
    let i = c.loop-term.term-index in
    record {
      made = c.in_ok-push.ensures.ok
          ∙ (ap (λ (ts : List (Tree _)). ts ++ c.in_ok-tree_of.field-0 ∷ []) c.loop-term.invariant.made
          ∙ (ap (λ (t : Tree _). mapped_all (place_in c.args.met.now) (atoms_at store (take i terms)) ++ t ∷ []) c.in_ok-tree_of.ensures
          ∙ sym (numbered_more c.args.met.now store terms i c.term-item.result (omega arith) c.term-item.is)));
      rest = rest_in store terms i (omega arith) c.loop-term.invariant.rest;
      left = omega (arith, c.loop-term.invariant.left, rest_size store terms i (omega arith));
    }
