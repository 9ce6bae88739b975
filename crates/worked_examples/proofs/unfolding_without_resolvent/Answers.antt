use Rattle.worked_examples.proofs.Unfoldings as examples
use Rattle.worked_examples.proofs.unfolding_without_resolvent.Goals as goal

pub returns-clause-gives : goal.returns-clause-gives
returns-clause-gives c = examples.unfold_without_resolvent

pub returns-clause-live : goal.returns-clause-live
returns-clause-live c = examples.live_without_resolvent

pub returns-clause-written : goal.returns-clause-written
returns-clause-written c = examples.printed_without_resolvent
