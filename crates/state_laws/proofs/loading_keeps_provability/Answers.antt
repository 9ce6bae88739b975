use Rattle.state_laws.proofs.Loaded.{loading_keeps_provable, loaded_run_keeps, loaded_run_keeps_predicates}
use Rattle.state_laws.proofs.loading_keeps_provability.Goals as goal

pub returns-clause-loaded : goal.returns-clause-loaded
returns-clause-loaded c = loading_keeps_provable

pub returns-clause-run : goal.returns-clause-run
returns-clause-run c = loaded_run_keeps

pub returns-clause-initial : goal.returns-clause-initial
returns-clause-initial c = loaded_run_keeps_predicates
