use Rattle.clause_resolvent.proofs.JoinedParts.{terms_in, atoms_low, atoms_have, if_ok_so}
use Rattle.clause_resolvent.proofs.joining.joined_atoms.Goals as goal

pub raised_all-requires-clause-within : goal.raised_all-requires-clause-within
raised_all-requires-clause-within c = terms_in c.args.store.now c.args.e.now c.as_slice.result.now c.requires.second c.as_slice.ensures

pub raised_all-requires-clause-low : goal.raised_all-requires-clause-low
raised_all-requires-clause-low c = atoms_low c.args.store.now c.args.e.now c.as_slice.result.now c.requires.second c.as_slice.ensures

pub returns-clause-made : goal.returns-clause-made
returns-clause-made c =
    if_ok_so c.in_turn.result _ _
    (λ all is. atoms_have c.args.store.now c.args.c.now c.args.e.now c.requires.first c.requires.second c.args.place c.variable_count-by.result c.as_slice.result.now
    c.atoms_before.new.scratch c.raised_all.new.to c.atoms_after.new.scratch c.in_ok-start.start c.in_ok-middle.middle c.in_ok-end.end all
    c.raised_all.ensures.keeps c.atoms_after.ensures.keeps c.variable_count-by.ensures.value c.as_slice.ensures
    c.in_ok-start.ensures.made c.in_ok-middle.ensures.made c.in_ok-end.ensures.made is)
    c.in_turn.ensures
