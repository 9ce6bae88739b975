use Rattle.std.proofs.Common.{sym, subst}
use Rattle.term_store.proofs.Keeping.{keeps_trans, keeps_within}
use Rattle.unify.specs.Pairs.{PairsIn}
use Rattle.unify_families.proofs.Holding.{pairs_kept, pairs_push}
use Rattle.unify_tests.proofs.shapes.put_pairs.Goals as goal

pub loop-left-preserved : goal.loop-left-preserved
loop-left-preserved c =
    let store = c.put-in-loop-left.new.store in
    subst (PairsIn store) (sym c.in_ok-push.ensures.items)
    (pairs_push store c.loop-left.pairs.items c.in_ok-a.a c.in_ok-b.b
    (pairs_kept c.loop-left.store store c.loop-left.pairs.items (keeps_trans c.loop-left.store c.put.new.store store c.in_ok-a.ensures.keeps c.in_ok-b.ensures.keeps) c.loop-left.invariant)
    (keeps_within c.put.new.store store c.in_ok-b.ensures.keeps c.in_ok-a.a c.in_ok-a.ensures.within) c.in_ok-b.ensures.within)
