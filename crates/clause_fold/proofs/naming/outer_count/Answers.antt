use Rattle.std.proofs.Common.{◌≡◌, suc, ◌+◌, true, false, sym, ◌∙◌, ap, arith}
use Rattle.clp_model.specs.Trees.{variables_in}
use Rattle.clause_store.specs.Stored.{clause_in}
use Rattle.fold_model.specs.Positions.{is_in}
use Rattle.clause_fold.specs.Marks.{is_marked}
use Rattle.clause_fold.proofs.StoredParts.{few_variables}
use Rattle.clause_fold.proofs.Named.{outer_here, outer_next, few_outer}
use Rattle.clause_fold.proofs.naming.outer_count.Goals as goal
use Rattle.clause_fold.proofs.naming.outer_count.Goals.{then-not-has, else-not-has}

pub overflow_cast-i : goal.overflow_cast-i
overflow_cast-i c = let few = few_variables c.args._store.now c.args.n.now c.requires.stored in omega (arith, few, c.len-i-end.ensures, c.loop-i-test.true)

pub overflow_add-i : goal.overflow_add-i
overflow_add-i c = let few = few_variables c.args._store.now c.args.n.now c.requires.stored in omega (arith, few, c.len-i-end.ensures, c.loop-i-test.true)

pub overflow_add-count : goal.overflow_add-count
overflow_add-count c =
    let few = few_variables c.args._store.now c.args.n.now c.requires.stored in
    let outer = few_outer (clause_in c.args._store.now c.args.n.now) in
    omega (arith, few, outer, c.loop-i.invariant)

pub loop-i-preserved : goal.loop-i-preserved
loop-i-preserved c =
    let n = clause_in c.args._store.now c.args.n.now in
    let i = c.loop-i.i in
    let sorts = c.args.n.now.sorts in
    let e : i + 1 ≡ suc i = omega arith in
    let marked = c.requires.body.each (suc i) in
    elim c.if-not-has.branch [
      | then-not-has w ↦
          let is : is_in (variables_in n.body) (suc i) ≡ false = sym marked ∙ sym (w.if-not-has.ensures ∙ ap (is_marked c.args.body.now) e) in
          let more = outer_here n sorts i (omega (arith, c.len-i-end.ensures, c.loop-i-test.true)) is in
          omega (arith, more, w.count-is, c.loop-i.invariant)
      | else-not-has w ↦
          let is : is_in (variables_in n.body) (suc i) ≡ true = sym marked ∙ sym (w.if-not-has.ensures ∙ ap (is_marked c.args.body.now) e) in
          let more = outer_next n sorts i (omega (arith, c.len-i-end.ensures, c.loop-i-test.true)) is in
          omega (arith, more, w.count-is, c.loop-i.invariant)
    ]

pub returns-clause-few : goal.returns-clause-few
returns-clause-few c =
    let few = few_variables c.args._store.now c.args.n.now c.requires.stored in
    let outer = few_outer (clause_in c.args._store.now c.args.n.now) in
    omega (arith, few, outer, c.loop-i.invariant)
