use Rattle.std.proofs.Common.{◌∙◌, sym}
use Rattle.unify_closure.proofs.Roots.{halved_by, same_twice, root_itself, read}
use Rattle.unify_closure.proofs.classes.find.Goals as goal

pub loop-at-smaller : goal.loop-at-smaller
loop-at-smaller c =
    (halved_by c.loop-at.parents.items c.loop-at.invariant.are c.loop-at.at c.loop-at.invariant.within c.index.result.now c.index-in-loop-at.result.now c.index-next.result.now
    c.index.ensures c.loop-at-test.true c.index-in-loop-at.ensures c.index-next.ensures).low

pub loop-at-preserved : goal.loop-at-preserved
loop-at-preserved c =
    let i = c.loop-at.invariant in
    let h =
    halved_by c.loop-at.parents.items i.are c.loop-at.at i.within c.index.result.now c.index-in-loop-at.result.now c.index-next.result.now
    c.index.ensures c.loop-at-test.true c.index-in-loop-at.ensures c.index-next.ensures in
    record {
      are = h.are;
      same = same_twice c.args.parents.now.items c.loop-at.parents.items _ i.same h.same;
      own = h.own_is ∙ i.own;
      within = h.within;
      root = h.root_is ∙ i.root;
    }

pub returns-clause-value : goal.returns-clause-value
returns-clause-value c =
    sym (root_itself c.loop-at.parents.items c.loop-at.at (sym (read c.loop-at.parents.items c.loop-at.at c.index.result.now c.index.ensures c.loop-at.invariant.within) ∙ c.loop-at-test.false)) ∙ c.loop-at.invariant.root
