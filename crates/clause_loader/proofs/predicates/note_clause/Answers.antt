use Rattle.std.proofs.Common.{arith}
use Rattle.clause_loader.specs.WellFormed.{IsNarrowAtom}
use Rattle.clause_loader.proofs.Items.{later_item}
use Rattle.clause_loader.proofs.predicates.note_clause.Goals as goal

pub note-requires-in-loop-atom : goal.note-requires-in-loop-atom
note-requires-in-loop-atom c = record { narrow = later_item IsNarrowAtom c.args.source.now.head c.args.source.now.atoms _ c.loop-atom.atom-index c.atom-item.result c.requires.narrow c.as_slice-atom-items.ensures (omega arith) c.atom-item.is }
