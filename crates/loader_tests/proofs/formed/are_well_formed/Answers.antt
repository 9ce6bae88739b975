use Rattle.std.proofs.Common.{refl, arith}
use Rattle.clause_loader.specs.WellFormed.{IsWellFormed, IsNarrow}
use Rattle.clause_loader.proofs.Items.{all_more, all_taken}
use Rattle.loader_tests.proofs.formed.are_well_formed.Goals as goal

pub loop-source-preserved : goal.loop-source-preserved
loop-source-preserved c =
    let i = c.loop-source.source-index in
    let both = c.if-not-is_well_formed.ensures refl in
    record {
      formed = all_more IsWellFormed c.args.sources.now i c.source-item.result (omega arith) c.source-item.is c.loop-source.invariant.formed both.0;
      narrow = all_more IsNarrow c.args.sources.now i c.source-item.result (omega arith) c.source-item.is c.loop-source.invariant.narrow both.1;
    }

pub returns-clause-formed : goal.returns-clause-formed
returns-clause-formed c = λ t. all_taken IsWellFormed c.args.sources.now c.loop-source.source-index (omega arith) c.loop-source.invariant.formed

pub returns-clause-narrow : goal.returns-clause-narrow
returns-clause-narrow c = λ t. all_taken IsNarrow c.args.sources.now c.loop-source.source-index (omega arith) c.loop-source.invariant.narrow
