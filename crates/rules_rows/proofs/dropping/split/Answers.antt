use Rattle.std.proofs.Common.{◌-◌, ◌<◌, ◌∙◌, List, length, ap, arith, remove}
use Rattle.clp_model.specs.Clauses.{Row}
use Rattle.map_state.proofs.Placed.{few_rows}
use Rattle.rules_rows.proofs.Sorted.{few_left, kept_without, nums_without}
use Rattle.rules_rows.proofs.dropping.split.Goals as goal

pub returns-clause-few : goal.returns-clause-few
returns-clause-few c =
    let rows = c.args.c.now.rows in
    let rest = c.remove-row.ensures.rest ∙ ap (λ (v : List Row). remove v (c.args.position - 1)) (c.in_ok-others.ensures ∙ c.as_slice.ensures) in
    let within : c.args.position - 1 < length rows = omega (arith, c.requires.position.0, c.requires.position.1) in
    few_left rows c.remove-row.new.self (c.args.position - 1) rest within (few_rows c.args._store.now c.args.c.now c.requires.stored)

pub returns-clause-kept : goal.returns-clause-kept
returns-clause-kept c =
    let rest = c.remove-row.ensures.rest ∙ ap (λ (v : List Row). remove v (c.args.position - 1)) (c.in_ok-others.ensures ∙ c.as_slice.ensures) in
    kept_without c.args.c.now.rows c.remove-row.new.self (c.args.position - 1) rest c.requires.stored.parts.kept

pub returns-clause-nums : goal.returns-clause-nums
returns-clause-nums c =
    let rest = c.remove-row.ensures.rest ∙ ap (λ (v : List Row). remove v (c.args.position - 1)) (c.in_ok-others.ensures ∙ c.as_slice.ensures) in
    nums_without c.args.c.now.sorts c.args.c.now.rows c.remove-row.new.self (c.args.position - 1) rest c.requires.stored.parts.nums
