use Rattle.std.proofs.Common.{arith, ap, length}
use Rattle.std.proofs.lemmas.Bool.{iff_false}
use Rattle.clause_store.proofs.Counts.{past_shape, past_atoms, past_variables, past_rows, past_none}
use Rattle.clause_store.proofs.limits.variables_within.Goals as goal

pub returns-then-is_large-clause-past : goal.returns-then-is_large-clause-past
returns-then-is_large-clause-past c =
    let raw = c.args.raw.now in
    past_shape c.args.store.now raw.head raw.rows raw.atoms raw.sorts c.requires.raw.kept c.args.rows.now c.requires.clean (c.is_large.ensures.0 c.if-is_large.true)

pub returns-then-len-gt-MAX_ATOMS-clause-past : goal.returns-then-len-gt-MAX_ATOMS-clause-past
returns-then-len-gt-MAX_ATOMS-clause-past c =
    let raw = c.args.raw.now in
    past_atoms c.args.store.now raw.head raw.rows raw.atoms raw.sorts c.requires.raw.kept c.args.rows.now c.requires.clean (iff_false c.is_large.ensures c.if-is_large.false) (omega arith)

pub returns-then-len-gt-MAX_VARIABLES-clause-past : goal.returns-then-len-gt-MAX_VARIABLES-clause-past
returns-then-len-gt-MAX_VARIABLES-clause-past c =
    let raw = c.args.raw.now in
    past_variables c.args.store.now raw.head raw.rows raw.atoms raw.sorts c.requires.raw.kept c.args.rows.now c.requires.clean (iff_false c.is_large.ensures c.if-is_large.false) (omega arith) (omega (arith, ap length c.in_ok-met.ensures))

pub returns-then-rows-gt-MAX_ROWS-clause-past : goal.returns-then-rows-gt-MAX_ROWS-clause-past
returns-then-rows-gt-MAX_ROWS-clause-past c =
    let raw = c.args.raw.now in
    past_rows c.args.store.now raw.head raw.rows raw.atoms raw.sorts c.requires.raw.kept c.args.rows.now c.requires.clean (iff_false c.is_large.ensures c.if-is_large.false) (omega arith) (omega (arith, ap length c.in_ok-met.ensures)) (omega arith)

pub returns-clause-within : goal.returns-clause-within
returns-clause-within c =
    let raw = c.args.raw.now in
    past_none c.args.store.now raw.head raw.rows raw.atoms raw.sorts c.requires.raw.kept c.args.rows.now c.requires.clean (iff_false c.is_large.ensures c.if-is_large.false) (omega arith) (omega (arith, ap length c.in_ok-met.ensures)) (omega arith)
