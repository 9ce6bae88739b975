use Rattle.clause_resolvent.proofs.JoinedParts.{rows_kept, rows_low}
use Rattle.clause_resolvent.proofs.joining.joined_rows.Goals as goal

pub raised_rows-requires-clause-kept : goal.raised_rows-requires-clause-kept
raised_rows-requires-clause-kept c = rows_kept c.args.store.now c.args.e.now c.as_slice-2.result.now c.requires.second c.as_slice-2.ensures

pub raised_rows-requires-clause-low : goal.raised_rows-requires-clause-low
raised_rows-requires-clause-low c = rows_low c.args.store.now c.args.e.now c.as_slice-2.result.now c.requires.second c.as_slice-2.ensures
