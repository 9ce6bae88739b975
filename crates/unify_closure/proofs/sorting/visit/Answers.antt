use Rattle.unify_closure.proofs.Visiting.{leaves, skips, enters, cycles, walk_cost_after, by_answer, stack_is}
use Rattle.unify_closure.specs.Walks.{WalksOn}
use Rattle.unify_closure.proofs.sorting.visit.Goals as goal

pub returns-in_ok-push-clause-walks : goal.returns-in_ok-push-clause-walks
returns-in_ok-push-clause-walks c =
    leaves c.args.nodes.now c.requires.graph c.args.stands.now c.requires.stands c.args.walk.now.entered.items c.args.walk.now.left.items c.args.walk.now.order.items c.args.walk.now.stack.items c.args.place c.args.leaving c.requires.within c.requires.walks
    c.if-leaving.true c.index.result.now c.index.ensures c.if-not-index.true c.push.new.self.items c.in_ok-push.ensures.items

pub returns-else-not-index-clause-walks : goal.returns-else-not-index-clause-walks
returns-else-not-index-clause-walks c =
    skips c.args.nodes.now c.requires.graph c.args.stands.now c.requires.stands c.args.walk.now.entered.items c.args.walk.now.left.items c.args.walk.now.order.items c.args.walk.now.stack.items c.args.place c.args.leaving c.requires.within c.requires.walks
    c.index.result.now c.index.ensures c.if-not-index.false

pub returns-then-not-index-2-clause-cost : goal.returns-then-not-index-2-clause-cost
returns-then-not-index-2-clause-cost c = λ more.
    walk_cost_after c.args.nodes.now c.requires.graph c.args.stands.now c.args.walk.now.entered.items c.args.walk.now.stack.items c.enter_kids.new.stack.items c.args.place c.index-2.result.now c.requires.within c.requires.walks.enter_count
    c.index-2.ensures c.if-not-index-2.true (stack_is c.args.nodes.now c.args.stands.now c.args.place c.index-nodes-place.result c.index-nodes-place.is c.requires.within c.args.walk.now.stack.items c.push-then-not-index-2.new.self.items c.enter_kids.new.stack.items c.in_ok-push-2.ensures.items c.in_ok-enter_kids.ensures)

pub returns-then-not-index-2-clause-walks : goal.returns-then-not-index-2-clause-walks
returns-then-not-index-2-clause-walks c =
    enters c.args.nodes.now c.requires.graph c.args.stands.now c.requires.stands c.args.walk.now.entered.items c.args.walk.now.left.items c.args.walk.now.order.items c.args.walk.now.stack.items c.args.place c.args.leaving c.requires.within c.requires.walks
    c.if-leaving.false c.enter_kids.new.stack.items (stack_is c.args.nodes.now c.args.stands.now c.args.place c.index-nodes-place.result c.index-nodes-place.is c.requires.within c.args.walk.now.stack.items c.push-then-not-index-2.new.self.items c.enter_kids.new.stack.items c.in_ok-push-2.ensures.items c.in_ok-enter_kids.ensures)

pub returns-clause-walks : goal.returns-clause-walks
returns-clause-walks c =
    by_answer (WalksOn c.args.nodes.now c.args.stands.now (record { entered = c.args.walk.now.entered; left = c.args.walk.now.left; order = c.args.walk.now.order; stack = c.args.walk.now.stack })) c.index-3.result.now
    (λ e. skips c.args.nodes.now c.requires.graph c.args.stands.now c.requires.stands c.args.walk.now.entered.items c.args.walk.now.left.items c.args.walk.now.order.items c.args.walk.now.stack.items c.args.place c.args.leaving c.requires.within c.requires.walks
    c.index-3.result.now c.index-3.ensures e)
    (λ e. cycles c.args.nodes.now c.requires.graph c.args.stands.now c.requires.stands c.args.walk.now.entered.items c.args.walk.now.left.items c.args.walk.now.order.items c.args.walk.now.stack.items c.args.place c.args.leaving c.requires.within c.requires.walks
    c.if-leaving.false c.index-2.result.now c.index-3.result.now c.index-2.ensures c.if-not-index-2.false c.index-3.ensures e)
