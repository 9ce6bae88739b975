use Rattle.std.proofs.Common.{rules, ◌∙◌}
use Rattle.map_base.proofs.Taking.{took_piece, took_some, within_piece}
use Rattle.map_main.proofs.writing.put.Goals as goal

pub returns-in-Err-clause-some : goal.returns-in-Err-clause-some
returns-in-Err-clause-some g c = took_some _ _ c.args.bytes.now c.loop-at.at (c.in-Err.ensures.err ∙ c.loop-at.invariant.told)

pub loop-at-preserved : goal.loop-at-preserved
loop-at-preserved g c =
    record {
      within = within_piece c.args.bytes.now c.loop-at.at c.in-Ok.n c.loop-at.invariant.within c.in-Ok.ensures.count.1;
      told = took_piece _ _ _ c.args.bytes.now c.loop-at.at c.in-Ok.n c.loop-at.invariant.told c.in-Ok.ensures.takes;
      quiet = search rules;
    }
