use Rattle.std.proofs.Common.{arith, ap, length, List, sym, subst}
use Rattle.std.specs.Prelude.{All}
use Rattle.map_model.specs.declared.step.Step.{Step}
use Rattle.script_laws.proofs.ReadSteps.{script_is}
use Rattle.map_replay.specs.Sources.{HasFormedSource}
use Rattle.map_replay.proofs.Sources.{sources_formed}
use Rattle.map_replay.proofs.replaying.run_script.Goals as goal

pub run_steps-requires-clause-few : goal.run_steps-requires-clause-few
run_steps-requires-clause-few c =
    let few = (script_is c.args.script.now c.in-Ok.steps c.in-Ok.ensures).few in
    let same = ap (λ (steps : List Step). length steps) c.as_slice.ensures in
    omega (arith, few, same)

pub run_steps-requires-clause-sources : goal.run_steps-requires-clause-sources
run_steps-requires-clause-sources c =
    subst (All HasFormedSource) (sym c.as_slice.ensures) (sources_formed c.args.script.now c.in-Ok.steps c.requires c.in-Ok.ensures)
