use Rattle.std.proofs.Common.{length, ap, ◌∙◌, arith}
use Rattle.term_store.proofs.Keeping.{have_trees_kept}
use Rattle.fold_model.specs.Positions.{chosen}
use Rattle.clause_fold.specs.Folded.{folded_trees}
use Rattle.clause_fold.proofs.StoredParts.{few_rows}
use Rattle.clause_fold.proofs.folded.folded_parts.Goals as goal

pub chosen_rows-requires : goal.chosen_rows-requires
chosen_rows-requires c = let few = few_rows c.args.store.now c.args.c.now c.requires.clause in let e = ap length c.as_slice.ensures in omega (arith, few, e)

pub returns-clause-parts : goal.returns-clause-parts
returns-clause-parts c = record {
  head = c.in_ok-head.ensures.made;
  rows = c.in_ok-rows.ensures ∙ ap (chosen c.args.keep.now) c.as_slice.ensures;
  atoms = have_trees_kept c.folded_atoms.new.scratch c.copy.new.self c.in_ok-atoms.atoms (folded_trees c.args.scratch.now c.args.images.now c.args.store.now c.args.n.now c.args.c.now c.args.at.now) c.copy.ensures.keeps
      c.in_ok-atoms.ensures.made;
  sorts = c.in_ok-sorts.ensures ∙ c.as_slice-2.ensures;
}
