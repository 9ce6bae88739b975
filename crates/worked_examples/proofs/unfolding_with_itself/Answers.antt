use Rattle.worked_examples.proofs.Unfoldings as examples
use Rattle.worked_examples.proofs.unfolding_with_itself.Goals as goal

pub returns-clause-gives : goal.returns-clause-gives
returns-clause-gives c = examples.unfold_with_itself

pub returns-clause-live : goal.returns-clause-live
returns-clause-live c = examples.live_after_unfold

pub returns-clause-written : goal.returns-clause-written
returns-clause-written c = examples.printed_after_unfold
