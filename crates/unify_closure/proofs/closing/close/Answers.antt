use Rattle.std.proofs.Common.{sym, subst, length}
use Rattle.unify_closure.specs.Classes.{root}
use Rattle.unify_closure.specs.Closing.{IsClosing}
use Rattle.unify_closure.specs.Turns.{best_at, Goes}
use Rattle.unify_closure.proofs.OneTurn.{starts, starts_closing, last_in}
use Rattle.unify_closure.proofs.closing.close.Goals as goal

pub loop-a-init : goal.loop-a-init
loop-a-init c =
    let ps = c.in_ok-places.field-0.items in
    let bs = c.in_ok-places-2.field-0.items in
    record {
      sound = starts c.args.nodes.now ps bs c.in_ok-places.ensures c.in_ok-places-2.ensures;
      closes =
          subst (λ w. IsClosing c.args.nodes.now (root ps) (best_at bs) w c.args.equations.now) (sym c.in_ok-from_slice.ensures.items)
          (starts_closing c.args.nodes.now ps bs c.in_ok-places.ensures c.in_ok-places-2.ensures c.args.equations.now c.requires.within);
    }

pub turn-requires-clause-a_within : goal.turn-requires-clause-a_within
turn-requires-clause-a_within c =
    (last_in (length c.args.nodes.now) c.loop-a.state.work.items c.pop.new.self.items c.in-Some.a c.in-Some.b c.in-Some.ensures.items c.loop-a.invariant.closes.left).0

pub turn-requires-clause-b_within : goal.turn-requires-clause-b_within
turn-requires-clause-b_within c =
    (last_in (length c.args.nodes.now) c.loop-a.state.work.items c.pop.new.self.items c.in-Some.a c.in-Some.b c.in-Some.ensures.items c.loop-a.invariant.closes.left).1

pub returns-then-not-branch-clause-none : goal.returns-then-not-branch-clause-none
returns-then-not-branch-clause-none c =
    let before =
    subst (λ w. IsClosing c.args.nodes.now (root c.loop-a.state.parents.items) (best_at c.loop-a.state.best.items) w c.args.equations.now) c.in-Some.ensures.items c.loop-a.invariant.closes in
    subst (Goes c.args.nodes.now c.turn.new.state c.args.equations.now) c.if-not-branch.true (c.in_ok-turn.ensures.goes c.args.equations.now before)

pub loop-a-preserved : goal.loop-a-preserved
loop-a-preserved c =
    let before =
    subst (λ w. IsClosing c.args.nodes.now (root c.loop-a.state.parents.items) (best_at c.loop-a.state.best.items) w c.args.equations.now) c.in-Some.ensures.items c.loop-a.invariant.closes in
    record {
      sound = c.in_ok-turn.ensures.sound;
      closes = subst (Goes c.args.nodes.now c.turn.new.state c.args.equations.now) c.if-not-branch.false (c.in_ok-turn.ensures.goes c.args.equations.now before);
    }
