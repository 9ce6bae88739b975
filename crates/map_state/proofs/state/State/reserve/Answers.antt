use Rattle.std.proofs.Common.{◌≡◌, refl, ap, sym, ◌∙◌, ◌+◌, ◌-◌, subst, List, ℕ, arith, length, vec_len}
use Rattle.std.specs.Prelude.{vec_capacity}
use Rattle.map_state.specs.declared.change.Made.{Made}
use Rattle.map_state.specs.declared.change.Ready.{Ready}
use Rattle.map_model.specs.declared.step.Step.{Step}
use Rattle.map_state.specs.Seen.{Seen, state_of}
use Rattle.map_model.specs.State.{State}
use Rattle.map_model.specs.Rewriting.{state_limit}
use Rattle.map_state.specs.Changes.{IsChange, changed}
use Rattle.map_state.specs.Rows.{nodes_of_made, AreMade, kept_first}
use Rattle.map_state.specs.Inside.{seen_of}
use Rattle.map_state.proofs.Reserving.{few_made, grown, grown_sound, reserved_ready, reserved_state}
use Rattle.map_state.proofs.state.State.reserve.Goals as goal

pub made_ready-requires-clause-stored : goal.made_ready-requires-clause-stored
made_ready-requires-clause-stored c = c.requires.change.made

pub made_ready-requires-clause-few : goal.made_ready-requires-clause-few
made_ready-requires-clause-few c =
    let P : Seen → Type 0 = λ s. IsChange (state_of s) c.args.change in
    let limit = ap (λ (s : Seen). state_limit (changed (state_of s) c.args.change)) c.self.view_is ∙ c.requires.within in
    few_made (seen_of c.self.inside) c.args.change c.self.invariant (subst P (sym c.self.view_is) c.requires.change) limit

pub invariant_of-self : goal.invariant_of-self
invariant_of-self c =
    grown_sound (seen_of c.self.inside) _ c.self.invariant
    (record { keeps = c.made_ready.ensures.keeps; entries = refl; definitions = refl; defined = refl; initials = refl; history = refl; live = refl; nodes = refl })

pub returns-in_err-ready-clause-same : goal.returns-in_err-ready-clause-same
returns-in_err-ready-clause-same c =
    grown (seen_of c.self.inside) c.made_ready.new.store c.self.inside.entries.items c.self.inside.definitions.items c.self.inside.defined.items c.self.inside.history.items c.self.invariant c.made_ready.ensures.keeps refl refl refl refl
    ∙ ap state_of c.self.view_is

pub invariant_of-self-in_err-reserve : goal.invariant_of-self-in_err-reserve
invariant_of-self-in_err-reserve c =
    grown_sound (seen_of c.self.inside) _ c.self.invariant
    (record { keeps = c.made_ready.ensures.keeps; entries = c.reserve.ensures.items; definitions = refl; defined = refl; initials = refl; history = refl; live = refl; nodes = refl })

pub returns-in_err-reserve-clause-same : goal.returns-in_err-reserve-clause-same
returns-in_err-reserve-clause-same c =
    grown (seen_of c.self.inside) c.made_ready.new.store c.reserve.new.self.items c.self.inside.definitions.items c.self.inside.defined.items c.self.inside.history.items c.self.invariant c.made_ready.ensures.keeps c.reserve.ensures.items refl refl refl
    ∙ ap state_of c.self.view_is

pub invariant_of-self-in_err-make_room : goal.invariant_of-self-in_err-make_room
invariant_of-self-in_err-make_room c =
    grown_sound (seen_of c.self.inside) _ c.self.invariant
    (record { keeps = c.made_ready.ensures.keeps; entries = c.reserve.ensures.items; definitions = c.make_room.ensures.definitions; defined = c.make_room.ensures.defined; initials = refl; history = c.make_room.ensures.history; live = refl; nodes = refl })

pub returns-in_err-make_room-clause-same : goal.returns-in_err-make_room-clause-same
returns-in_err-make_room-clause-same c =
    grown (seen_of c.self.inside) c.made_ready.new.store c.reserve.new.self.items c.make_room.new.definitions.items c.make_room.new.defined.items c.make_room.new.history.items c.self.invariant c.made_ready.ensures.keeps c.reserve.ensures.items c.make_room.ensures.definitions c.make_room.ensures.defined c.make_room.ensures.history
    ∙ ap state_of c.self.view_is

pub invariant_of-self-2 : goal.invariant_of-self-2
invariant_of-self-2 c =
    grown_sound (seen_of c.self.inside) _ c.self.invariant
    (record { keeps = c.made_ready.ensures.keeps; entries = c.reserve.ensures.items; definitions = c.make_room.ensures.definitions; defined = c.make_room.ensures.defined; initials = refl; history = c.make_room.ensures.history; live = refl; nodes = refl })

pub returns-clause-same : goal.returns-clause-same
returns-clause-same c =
    grown (seen_of c.self.inside) c.made_ready.new.store c.reserve.new.self.items c.make_room.new.definitions.items c.make_room.new.defined.items c.make_room.new.history.items c.self.invariant c.made_ready.ensures.keeps c.reserve.ensures.items c.make_room.ensures.definitions c.make_room.ensures.defined c.make_room.ensures.history
    ∙ ap state_of c.self.view_is

pub returns-clause-ready : goal.returns-clause-ready
returns-clause-ready c =
    let same = grown (seen_of c.self.inside) c.made_ready.new.store c.reserve.new.self.items c.make_room.new.definitions.items c.make_room.new.defined.items c.make_room.new.history.items c.self.invariant c.made_ready.ensures.keeps c.reserve.ensures.items c.make_room.ensures.definitions c.make_room.ensures.defined c.make_room.ensures.history
    ∙ ap state_of c.self.view_is in
    let P : State → Type 0 = λ s. IsChange s c.args.change in
    let limit = ap (λ (s : State). state_limit (changed s c.args.change)) same ∙ c.requires.within in
    let number : c.len.result + 1 ≡ length c.make_room.new.history.items + 1 = (let steps = ap (λ (xs : List Step). length xs) c.make_room.ensures.history in omega (arith, c.self.inside.history.ok.0)) in
    let Q : ℕ → Type 0 = λ n. AreMade c.made_ready.new.store n c.args.change.scratch c.args.change.made c.in_ok-ready.ready.entries.items in
    reserved_ready _ c.args.change _ (subst P (sym same) c.requires.change) limit
    (record {
      dead = c.in_ok-ready.ensures.dead;
      made = subst Q number c.in_ok-ready.ensures.made;
      kept = c.in_ok-ready.ensures.kept;
      nodes = c.in_ok-ready.ensures.nodes;
      step = c.in_ok-ready.ensures.step;
      room = omega (arith, c.in_ok-reserve.ensures.ok, c.len-2.ensures, c.in_ok-ready.ready.entries.ok.0);
      definition_room = c.in_ok-make_room.ensures.definition_room;
      defined_room = c.in_ok-make_room.ensures.defined_room;
      history_room = c.in_ok-make_room.ensures.history_room;
    })

pub returns-clause-makes : goal.returns-clause-makes
returns-clause-makes c =
    let same = grown (seen_of c.self.inside) c.made_ready.new.store c.reserve.new.self.items c.make_room.new.definitions.items c.make_room.new.defined.items c.make_room.new.history.items c.self.invariant c.made_ready.ensures.keeps c.reserve.ensures.items c.make_room.ensures.definitions c.make_room.ensures.defined c.make_room.ensures.history
    ∙ ap state_of c.self.view_is in
    let P : State → Type 0 = λ s. IsChange s c.args.change in
    let limit = ap (λ (s : State). state_limit (changed s c.args.change)) same ∙ c.requires.within in
    let number : c.len.result + 1 ≡ length c.make_room.new.history.items + 1 = (let steps = ap (λ (xs : List Step). length xs) c.make_room.ensures.history in omega (arith, c.self.inside.history.ok.0)) in
    let Q : ℕ → Type 0 = λ n. AreMade c.made_ready.new.store n c.args.change.scratch c.args.change.made c.in_ok-ready.ready.entries.items in
    let new : Seen =
    record {
      store = c.made_ready.new.store;
      entries = c.reserve.new.self.items;
      definitions = c.make_room.new.definitions.items;
      defined = c.make_room.new.defined.items;
      initials = c.self.inside.initials;
      history = c.make_room.new.history.items;
      live = c.self.inside.live;
      nodes = c.self.inside.nodes;
      room = vec_capacity c.reserve.new.self - vec_len c.reserve.new.self;
      definition_room = vec_capacity c.make_room.new.definitions - vec_len c.make_room.new.definitions;
      defined_room = vec_capacity c.make_room.new.defined - vec_len c.make_room.new.defined;
      history_room = vec_capacity c.make_room.new.history - vec_len c.make_room.new.history;
    } in
    reserved_state new c.args.change c.in_ok-ready.ready (subst P (sym same) c.requires.change) limit
    (record {
      dead = c.in_ok-ready.ensures.dead;
      made = subst Q number c.in_ok-ready.ensures.made;
      kept = c.in_ok-ready.ensures.kept;
      nodes = c.in_ok-ready.ensures.nodes;
      step = c.in_ok-ready.ensures.step;
      room = omega (arith, c.in_ok-reserve.ensures.ok, c.len-2.ensures, c.in_ok-ready.ready.entries.ok.0);
      definition_room = c.in_ok-make_room.ensures.definition_room;
      defined_room = c.in_ok-make_room.ensures.defined_room;
      history_room = c.in_ok-make_room.ensures.history_room;
    })
    ∙ ap (λ (s : State). changed s c.args.change) same
