use Rattle.std.proofs.Common.{◌<◌, ◌∙◌, sym, subst, slice_set}
use Rattle.unify_closure.specs.Graph.{node_at}
use Rattle.unify_closure.specs.Closing.{chosen, IsClosing}
use Rattle.unify_closure.specs.Classes.{own, root}
use Rattle.unify_closure.specs.Turns.{IsTaken, IsTakenBy, best_at}
use Rattle.unify_closure.proofs.Roots.{same_twice}
use Rattle.unify_closure.proofs.OneTurn.{r_root, s_root, goes_already, goes_never, goes_on, sound_after, cost_after, few}
use Rattle.unify_closure.proofs.closing.turn.Goals as goal

pub returns-then-a-b-clause-goes : goal.returns-then-a-b-clause-goes
returns-then-a-b-clause-goes c = λ input is.
    goes_already c.args.nodes.now c.requires.graph c.args.state.now.parents.items c.args.state.now.best.items c.requires.sound c.find-b.new.parents.items c.find-b.ensures.parents
    (same_twice _ _ _ c.find-a.ensures.same c.find-b.ensures.same) c.args.a c.args.b c.find-a.result c.find-b.result c.requires.a_within c.requires.b_within c.find-a.ensures.value
    (c.find-b.ensures.value ∙ c.find-a.ensures.same.same c.args.b (subst (λ m. c.args.b < m) (sym c.requires.sound.parents_count) c.requires.b_within))
    c.args.state.now.work.items input c.if-a-b.true is

pub returns-in_default-clause-goes : goal.returns-in_default-clause-goes
returns-in_default-clause-goes c = λ input is.
    goes_never c.args.nodes.now c.requires.graph c.args.state.now.parents.items c.args.state.now.best.items c.requires.sound c.find-b.new.parents.items c.find-b.ensures.parents
    (same_twice _ _ _ c.find-a.ensures.same c.find-b.ensures.same) c.args.a c.args.b c.find-a.result c.find-b.result c.requires.a_within c.requires.b_within c.find-a.ensures.value
    (c.find-b.ensures.value ∙ c.find-a.ensures.same.same c.args.b (subst (λ m. c.args.b < m) (sym c.requires.sound.parents_count) c.requires.b_within))
    c.index-x.result.now c.index-y.result.now c.index-x.ensures c.index-y.ensures
    c.args.state.now.work.items input
    (subst (λ o. IsTaken o c.args.state.now.work.items c.choose.new.work.items (chosen c.index-x.result.now c.index-y.result.now (node_at c.args.nodes.now c.index-x.result.now) (node_at c.args.nodes.now c.index-y.result.now))) c.in_default.is c.in_ok-best.ensures) is

pub join-class-requires-clause-a_root : goal.join-class-requires-clause-a_root
join-class-requires-clause-a_root c =
    r_root c.args.nodes.now c.requires.graph c.args.state.now.parents.items c.args.state.now.best.items c.requires.sound c.find-b.new.parents.items c.find-b.ensures.parents
    (same_twice _ _ _ c.find-a.ensures.same c.find-b.ensures.same) c.args.a c.args.b c.find-a.result c.find-b.result c.requires.a_within c.requires.b_within c.find-a.ensures.value
    (c.find-b.ensures.value ∙ c.find-a.ensures.same.same c.args.b (subst (λ m. c.args.b < m) (sym c.requires.sound.parents_count) c.requires.b_within))

pub join-class-requires-clause-b_root : goal.join-class-requires-clause-b_root
join-class-requires-clause-b_root c =
    s_root c.args.nodes.now c.requires.graph c.args.state.now.parents.items c.args.state.now.best.items c.requires.sound c.find-b.new.parents.items c.find-b.ensures.parents
    (same_twice _ _ _ c.find-a.ensures.same c.find-b.ensures.same) c.args.a c.args.b c.find-a.result c.find-b.result c.requires.a_within c.requires.b_within c.find-a.ensures.value
    (c.find-b.ensures.value ∙ c.find-a.ensures.same.same c.args.b (subst (λ m. c.args.b < m) (sym c.requires.sound.parents_count) c.requires.b_within))

pub returns-clause-sound : goal.returns-clause-sound
returns-clause-sound c =
    let t : IsTakenBy c.in-Some.best c.args.state.now.work.items c.choose.new.work.items (chosen c.index-x.result.now c.index-y.result.now (node_at c.args.nodes.now c.index-x.result.now) (node_at c.args.nodes.now c.index-y.result.now)) =
    subst (λ o. IsTaken o c.args.state.now.work.items c.choose.new.work.items (chosen c.index-x.result.now c.index-y.result.now (node_at c.args.nodes.now c.index-x.result.now) (node_at c.args.nodes.now c.index-y.result.now))) c.in-Some.is c.in_ok-best.ensures in
    sound_after c.args.nodes.now c.requires.graph c.args.state.now.parents.items c.args.state.now.best.items c.requires.sound c.find-b.new.parents.items c.find-b.ensures.parents
    (same_twice _ _ _ c.find-a.ensures.same c.find-b.ensures.same) c.args.a c.args.b c.find-a.result c.find-b.result c.requires.a_within c.requires.b_within c.find-a.ensures.value
    (c.find-b.ensures.value ∙ c.find-a.ensures.same.same c.args.b (subst (λ m. c.args.b < m) (sym c.requires.sound.parents_count) c.requires.b_within))
    c.index-x.result.now c.index-y.result.now c.index-x.ensures c.index-y.ensures
    c.join-class.new.parents.items c.join-class.result c.in-Some.best t.pairs c.join-class.ensures.joined c.join-class.ensures.parents t.is

pub returns-clause-goes : goal.returns-clause-goes
returns-clause-goes c = λ input is.
    let t : IsTakenBy c.in-Some.best c.args.state.now.work.items c.choose.new.work.items (chosen c.index-x.result.now c.index-y.result.now (node_at c.args.nodes.now c.index-x.result.now) (node_at c.args.nodes.now c.index-y.result.now)) =
    subst (λ o. IsTaken o c.args.state.now.work.items c.choose.new.work.items (chosen c.index-x.result.now c.index-y.result.now (node_at c.args.nodes.now c.index-x.result.now) (node_at c.args.nodes.now c.index-y.result.now))) c.in-Some.is c.in_ok-best.ensures in
    let after =
    goes_on c.args.nodes.now c.requires.graph c.args.state.now.parents.items c.args.state.now.best.items c.requires.sound c.find-b.new.parents.items c.find-b.ensures.parents
    (same_twice _ _ _ c.find-a.ensures.same c.find-b.ensures.same) c.args.a c.args.b c.find-a.result c.find-b.result c.requires.a_within c.requires.b_within c.find-a.ensures.value
    (c.find-b.ensures.value ∙ c.find-a.ensures.same.same c.args.b (subst (λ m. c.args.b < m) (sym c.requires.sound.parents_count) c.requires.b_within))
    c.index-x.result.now c.index-y.result.now c.index-x.ensures c.index-y.ensures
    c.join-class.new.parents.items c.join-class.result c.in-Some.best t.pairs c.join-class.ensures.joined c.join-class.ensures.parents t.is c.args.state.now.work.items input is in
    subst (λ w. IsClosing c.args.nodes.now (root c.join-class.new.parents.items) (best_at (slice_set c.args.state.now.best.items c.join-class.result c.in-Some.best)) w input) (sym t.put) after

pub returns-clause-cost : goal.returns-clause-cost
returns-clause-cost c =
    let t : IsTakenBy c.in-Some.best c.args.state.now.work.items c.choose.new.work.items (chosen c.index-x.result.now c.index-y.result.now (node_at c.args.nodes.now c.index-x.result.now) (node_at c.args.nodes.now c.index-y.result.now)) =
    subst (λ o. IsTaken o c.args.state.now.work.items c.choose.new.work.items (chosen c.index-x.result.now c.index-y.result.now (node_at c.args.nodes.now c.index-x.result.now) (node_at c.args.nodes.now c.index-y.result.now))) c.in-Some.is c.in_ok-best.ensures in
    let f = few c.args.nodes.now c.requires.graph c.args.state.now.parents.items c.args.state.now.best.items c.requires.sound c.find-b.new.parents.items c.find-b.ensures.parents
    (same_twice _ _ _ c.find-a.ensures.same c.find-b.ensures.same) c.args.a c.args.b c.find-a.result c.find-b.result c.requires.a_within c.requires.b_within c.find-a.ensures.value
    (c.find-b.ensures.value ∙ c.find-a.ensures.same.same c.args.b (subst (λ m. c.args.b < m) (sym c.requires.sound.parents_count) c.requires.b_within))
    c.index-x.result.now c.index-y.result.now c.index-x.ensures c.index-y.ensures
    c.join-class.new.parents.items c.join-class.result c.in-Some.best t.pairs c.join-class.ensures.joined c.join-class.ensures.parents t.is in
    λ more. cost_after (own c.args.state.now.parents.items) (own c.join-class.new.parents.items) c.args.state.now.work.items t.pairs c.choose.new.work.items
    (c.join-class.ensures.own ∙ c.find-b.ensures.own ∙ c.find-a.ensures.own) f.few t.put
