use Rattle.std.proofs.Common.{◌∙◌}
use Rattle.rules_rows.proofs.Eliminated.{rows_left_kept, rows_left_nums}
use Rattle.rules_rows.proofs.projecting.eliminated.Goals as goal

pub returns-in-Ok-clause-kept : goal.returns-in-Ok-clause-kept
returns-in-Ok-clause-kept c =
    rows_left_kept c.args.var c.args.c.now.rows c.as_slice.result.now c.from_vec.result c.as_slice.ensures (c.from_vec.ensures ∙ c.in-Ok.ensures.value) c.in-Ok.ensures.within
    c.requires.stored.parts.kept

pub returns-in-Ok-clause-nums : goal.returns-in-Ok-clause-nums
returns-in-Ok-clause-nums c =
    rows_left_nums c.args.var c.args.c.now.rows c.as_slice.result.now c.from_vec.result c.as_slice.ensures (c.from_vec.ensures ∙ c.in-Ok.ensures.value) c.in-Ok.ensures.within
    c.args.c.now.sorts c.requires.stored.parts.kept c.requires.stored.parts.nums
