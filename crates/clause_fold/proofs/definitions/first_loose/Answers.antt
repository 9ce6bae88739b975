use Rattle.std.proofs.Common.{◌≡◌, suc, ◌+◌, length, sym, ◌∙◌, ap, arith, Some}
use Rattle.clause_store.specs.Stored.{clause_in}
use Rattle.clause_fold.specs.Marks.{is_marked_loose}
use Rattle.clause_fold.proofs.StoredParts.{few_variables}
use Rattle.clause_fold.proofs.Loose.{loose_is, loose_here, loose_next}
use Rattle.clause_fold.proofs.definitions.first_loose.Goals as goal

pub overflow_cast-number : goal.overflow_cast-number
overflow_cast-number c = let few = few_variables c.args._store.now c.args.n.now c.requires.stored in omega (arith, few, c.len-i-end.ensures, c.loop-i-test.true)

pub overflow_add-number : goal.overflow_add-number
overflow_add-number c = let few = few_variables c.args._store.now c.args.n.now c.requires.stored in omega (arith, few, c.len-i-end.ensures, c.loop-i-test.true)

pub returns-then-is_loose : goal.returns-then-is_loose
returns-then-is_loose c =
    let n = clause_in c.args._store.now c.args.n.now in
    let i = c.loop-i.i in
    let is = loose_is n c.args.head.now c.args.rows.now c.args.body.now (length c.args.n.now.sorts) (suc i) c.requires.head c.requires.rows c.requires.body in
    let e : i + 1 ≡ suc i = omega arith in
    ap Some e ∙ sym (loose_here n c.args.n.now.sorts i (omega (arith, c.len-i-end.ensures, c.loop-i-test.true)) (sym is ∙ sym (c.if-is_loose.ensures ∙ ap (is_marked_loose c.args.head.now c.args.rows.now c.args.body.now) e))) ∙ c.loop-i.invariant

pub loop-i-preserved : goal.loop-i-preserved
loop-i-preserved c =
    let n = clause_in c.args._store.now c.args.n.now in
    let i = c.loop-i.i in
    let is = loose_is n c.args.head.now c.args.rows.now c.args.body.now (length c.args.n.now.sorts) (suc i) c.requires.head c.requires.rows c.requires.body in
    let e : i + 1 ≡ suc i = omega arith in
    sym (loose_next n c.args.n.now.sorts i (omega (arith, c.len-i-end.ensures, c.loop-i-test.true)) (sym is ∙ sym (c.if-is_loose.ensures ∙ ap (is_marked_loose c.args.head.now c.args.rows.now c.args.body.now) e))) ∙ c.loop-i.invariant
