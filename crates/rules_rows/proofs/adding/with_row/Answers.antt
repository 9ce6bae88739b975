use Rattle.std.proofs.Common.{◌∙◌}
use Rattle.clause_store.specs.Stored.{clause_in}
use Rattle.rules_rows.proofs.Broken.{are_nums}
use Rattle.rules_rows.proofs.Sorted.{kept_more, nums_more, copied_last}
use Rattle.rules_rows.proofs.adding.with_row.Goals as goal

pub with_rows-requires-clause-kept : goal.with_rows-requires-clause-kept
with_rows-requires-clause-kept c =
    let rows = c.args.c.now.rows in
    let row = c.args.row.now in
    kept_more rows c.push.new.self row (copied_last rows c.in_ok-rows.rows c.push.new.self row c.in_ok-copied.field-0 (c.in_ok-rows.ensures ∙ c.as_slice.ensures) c.in_ok-copied.ensures c.in_ok-push.ensures.ok)
    c.requires.stored.parts.kept c.rel.ensures.kept

pub with_rows-requires-clause-nums : goal.with_rows-requires-clause-nums
with_rows-requires-clause-nums c =
    let rows = c.args.c.now.rows in
    let row = c.args.row.now in
    nums_more c.args.c.now.sorts rows c.push.new.self row (copied_last rows c.in_ok-rows.rows c.push.new.self row c.in_ok-copied.field-0 (c.in_ok-rows.ensures ∙ c.as_slice.ensures) c.in_ok-copied.ensures c.in_ok-push.ensures.ok)
    c.requires.stored.parts.nums (are_nums (clause_in c.args.store.now c.args.c.now) row.pairs c.requires.variables)
