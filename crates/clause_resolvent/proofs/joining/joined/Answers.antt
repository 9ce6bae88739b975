use Rattle.std.proofs.Common.{sym, subst}
use Rattle.clp_model.specs.declared.tree.Variable.{Variable}
use Rattle.clp_model.specs.declared.tree.Tree.{Tree}
use Rattle.term_store.specs.Trees.{tree_at, HasTree}
use Rattle.term_store.proofs.Keeping.{has_tree_kept}
use Rattle.clause_resolvent.proofs.JoinedParts.{head_typed}
use Rattle.clause_resolvent.proofs.joining.joined.Goals as goal

pub returns-clause-joined : goal.returns-clause-joined
returns-clause-joined c =
    let store = c.args.store.now in
    let new = c.joined_atoms.new.scratch in
    let head = c.in_ok-head.head in
    let P : Tree Variable → Type 0 = HasTree new head in
    record {
      head = subst P (sym (head_typed store c.args.c.now c.args.e.now c.requires.first c.requires.second))
          (has_tree_kept c.copy.new.self new head (tree_at store c.args.c.now.head) c.joined_atoms.ensures.keeps c.in_ok-head.ensures.made);
      atoms = c.in_ok-atoms.ensures.made;
      rows = c.in_ok-rows.ensures;
      sorts = c.in_ok-sorts.ensures;
    }
