use Rattle.std.proofs.Common.{◌≡◌, length, ap, ◌∙◌, arith}
use Rattle.fold_model.specs.Positions.{others, chosen}
use Rattle.clp_model.specs.Trees.{variables}
use Rattle.clause_store.specs.Stored.{atom_at}
use Rattle.clause_fold.proofs.StoredParts.{few_atoms, few_rows}
use Rattle.clause_fold.proofs.Parted.{staying_in, staying_numbered, kept_numbered, staying_are}
use Rattle.clause_fold.proofs.internal.staying_marks.Goals as goal

pub others-requires : goal.others-requires
others-requires c = let few = few_atoms c.args.store.now c.args.c.now c.requires in let e = ap length c.as_slice.ensures in omega (arith, few, e)

pub add_terms-requires-clause-within : goal.add_terms-requires-clause-within
add_terms-requires-clause-within c =
    staying_in c.args.store.now c.args.c.now c.requires c.args.at.now c.as_slice-2.result.now (c.as_slice-2.ensures ∙ c.in_ok-atoms.ensures ∙ ap (others c.args.at.now) c.as_slice.ensures)

pub add_terms-requires-clause-numbered : goal.add_terms-requires-clause-numbered
add_terms-requires-clause-numbered c =
    staying_numbered c.args.store.now c.args.c.now c.requires c.args.at.now c.as_slice-2.result.now _ (c.as_slice-2.ensures ∙ c.in_ok-atoms.ensures ∙ ap (others c.args.at.now) c.as_slice.ensures) c.in_ok-marks.ensures.count

pub chosen_rows-requires : goal.chosen_rows-requires
chosen_rows-requires c = let few = few_rows c.args.store.now c.args.c.now c.requires in let e = ap length c.as_slice-3.ensures in omega (arith, few, e)

pub add_rows-requires : goal.add_rows-requires
add_rows-requires c =
    kept_numbered c.args.store.now c.args.c.now c.requires c.args.keep.now c.as_slice-4.result.now _ (c.as_slice-4.ensures ∙ c.in_ok-rows.ensures ∙ ap (chosen c.args.keep.now) c.as_slice-3.ensures) (c.add_terms.ensures.count ∙ c.in_ok-marks.ensures.count)

pub returns : goal.returns
returns c =
    staying_are c.args.store.now c.in_ok-marks.marks c.add_terms.new.self c.add_rows.new.self (length c.args.c.now.sorts) (variables (atom_at c.args.store.now c.args.c.now.head)) c.args.at.now c.args.keep.now c.args.c.now.atoms c.as_slice-2.result.now c.args.c.now.rows
    c.as_slice-4.result.now (c.as_slice-2.ensures ∙ c.in_ok-atoms.ensures ∙ ap (others c.args.at.now) c.as_slice.ensures) (c.as_slice-4.ensures ∙ c.in_ok-rows.ensures ∙ ap (chosen c.args.keep.now) c.as_slice-3.ensures)
    c.in_ok-marks.ensures c.add_terms.ensures c.add_rows.ensures
