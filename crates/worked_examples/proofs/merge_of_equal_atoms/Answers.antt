use Rattle.worked_examples.proofs.Merges as examples
use Rattle.worked_examples.proofs.merge_of_equal_atoms.Goals as goal

pub returns-clause-gives : goal.returns-clause-gives
returns-clause-gives c = examples.merge_gives

pub returns-clause-live : goal.returns-clause-live
returns-clause-live c = examples.live_after_merge

pub returns-clause-written : goal.returns-clause-written
returns-clause-written c = examples.printed_after_merge
