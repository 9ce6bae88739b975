use Rattle.state_laws.proofs.Provable.{live_and_base}
use Rattle.state_laws.proofs.Initial.{live_and_loaded}
use Rattle.state_laws.proofs.live_and_base_prove_the_same.Goals as goal

pub returns-clause-base : goal.returns-clause-base
returns-clause-base c = live_and_base

pub returns-clause-loaded : goal.returns-clause-loaded
returns-clause-loaded c = live_and_loaded
