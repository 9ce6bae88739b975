use Rattle.std.proofs.Common.{◌≤◌, List, length, ap, sym, subst}
use Rattle.clp_model.specs.declared.sort.Sort.{Sort}
use Rattle.clause_store.specs.Stored.{atoms_at, clause_in}
use Rattle.clause_store.proofs.Counts.{few_sorts}
use Rattle.clause_source.proofs.Printed.{met_made}
use Rattle.clause_source.proofs.meeting.variables_as_printed.Goals as goal

pub meet_nums-requires : goal.meet_nums-requires
meet_nums-requires c =
    let P : List Sort → Type 0 = λ ss. length ss ≤ 256 in
    subst P (sym c.as_slice-2.ensures) (few_sorts (clause_in c.args.store.now c.args.c.now) c.requires.canonical.limits)

pub returns : goal.returns
returns c =
    met_made (clause_in c.args.store.now c.args.c.now) _ _ _ _ _ _ _ (atoms_at c.args.store.now c.as_slice-3.result.now)
    c.new-met.ensures c.in_ok-meet.ensures c.as_slice.ensures c.in_ok-meet_rows.ensures c.as_slice-2.ensures c.in_ok-meet_nums.ensures
    (ap (atoms_at c.args.store.now) c.as_slice-3.ensures) c.in_ok-meet_all.ensures
