use Rattle.std.proofs.Common.{refl, ap, sym, ◌∙◌, ◌+◌, ◌-◌, ◌++◌, ◌∷◌, [], subst, List, ℕ, arith, vec_len}
use Rattle.std.specs.Prelude.{is_ok, vec_capacity, if◌then◌else◌}
use Rattle.map_state.specs.Seen.{Seen}
use Rattle.map_state.specs.Changes.{IsReady, ready_state}
use Rattle.map_state.specs.Rows.{AllIds, rows_killed}
use Rattle.map_state.specs.Inside.{seen_of}
use Rattle.map_state.proofs.Committing.{committed_state, committed_sound, counts, ids_ready}
use Rattle.map_state.proofs.state.State.commit.Goals as goal

pub kill_all-requires : goal.kill_all-requires
kill_all-requires c =
    let P : Seen → Type 0 = λ s. IsReady s c.args.ready in
    let Q : List ℕ → Type 0 = AllIds (vec_len c.self.inside.entries) in
    let ready = subst P (sym c.self.view_is) c.requires in
    subst Q (sym c.as_slice.ensures) (ids_ready (seen_of c.self.inside) c.args.ready (vec_len c.self.inside.entries) (omega (arith, c.self.inside.entries.ok.0)) ready)

pub overflow_cast-self : goal.overflow_cast-self
overflow_cast-self c =
    let P : Seen → Type 0 = λ s. IsReady s c.args.ready in
    let n = counts (seen_of c.self.inside) c.args.ready c.self.invariant (subst P (sym c.self.view_is) c.requires) in
    omega (arith, c.args.ready.entries.ok.0)

pub overflow_add-self : goal.overflow_add-self
overflow_add-self c =
    let P : Seen → Type 0 = λ s. IsReady s c.args.ready in
    let n = counts (seen_of c.self.inside) c.args.ready c.self.invariant (subst P (sym c.self.view_is) c.requires) in
    let few = c.self.invariant.few_live in
    omega (arith, c.args.ready.entries.ok.0)

pub overflow_cast-self-2 : goal.overflow_cast-self-2
overflow_cast-self-2 c =
    let P : Seen → Type 0 = λ s. IsReady s c.args.ready in
    let n = counts (seen_of c.self.inside) c.args.ready c.self.invariant (subst P (sym c.self.view_is) c.requires) in
    let few = c.self.invariant.few_live in
    omega arith

pub overflow_sub-self : goal.overflow_sub-self
overflow_sub-self c =
    let P : Seen → Type 0 = λ s. IsReady s c.args.ready in
    let n = counts (seen_of c.self.inside) c.args.ready c.self.invariant (subst P (sym c.self.view_is) c.requires) in
    omega (arith, c.args.ready.entries.ok.0)

pub invariant_of-self : goal.invariant_of-self
invariant_of-self c =
    let P : Seen → Type 0 = λ s. IsReady s c.args.ready in
    let ready = subst P (sym c.self.view_is) c.requires in
    let n = counts (seen_of c.self.inside) c.args.ready c.self.invariant ready in
    let few = c.self.invariant.few_live in
    let pushed = c.push.ensures.items ∙ ap (λ r. if is_ok r then c.self.inside.history.items ++ c.args.ready.step ∷ [] else c.self.inside.history.items) c.unwrap-2.ensures in
    let appended = c.append.ensures.items ∙ ap (λ r. if is_ok r then c.kill_all.new.entries.items ++ c.args.ready.entries.items else c.kill_all.new.entries.items) c.unwrap.ensures in
    let kept = c.kill_all.ensures.items ∙ ap (rows_killed c.self.inside.entries.items) c.as_slice.ensures in
    committed_sound (seen_of c.self.inside) _ c.args.ready c.self.invariant ready
    (record { store = refl; entries = appended ∙ ap (λ rows. rows ++ c.args.ready.entries.items) kept; definitions = c.keep.ensures.definitions; defined = c.keep.ensures.defined; initials = refl; history = pushed; live = omega (arith, c.args.ready.entries.ok.0); nodes = refl })

pub returns : goal.returns
returns c =
    let P : Seen → Type 0 = λ s. IsReady s c.args.ready in
    let ready = subst P (sym c.self.view_is) c.requires in
    let n = counts (seen_of c.self.inside) c.args.ready c.self.invariant ready in
    let few = c.self.invariant.few_live in
    let pushed = c.push.ensures.items ∙ ap (λ r. if is_ok r then c.self.inside.history.items ++ c.args.ready.step ∷ [] else c.self.inside.history.items) c.unwrap-2.ensures in
    let appended = c.append.ensures.items ∙ ap (λ r. if is_ok r then c.kill_all.new.entries.items ++ c.args.ready.entries.items else c.kill_all.new.entries.items) c.unwrap.ensures in
    let kept = c.kill_all.ensures.items ∙ ap (rows_killed c.self.inside.entries.items) c.as_slice.ensures in
    let new : Seen =
    record {
      store = c.self.inside.store;
      entries = c.append.new.self.items;
      definitions = c.keep.new.definitions.items;
      defined = c.keep.new.defined.items;
      initials = c.self.inside.initials;
      history = c.push.new.self.items;
      live = c.self.inside.live + c.len.result - c.len-2.result;
      nodes = c.self.inside.nodes + c.args.ready.nodes;
      room = vec_capacity c.append.new.self - vec_len c.append.new.self;
      definition_room = vec_capacity c.keep.new.definitions - vec_len c.keep.new.definitions;
      defined_room = vec_capacity c.keep.new.defined - vec_len c.keep.new.defined;
      history_room = vec_capacity c.push.new.self - vec_len c.push.new.self;
    } in
    committed_state (seen_of c.self.inside) new c.args.ready c.self.invariant ready
    (record { store = refl; entries = appended ∙ ap (λ rows. rows ++ c.args.ready.entries.items) kept; definitions = c.keep.ensures.definitions; defined = c.keep.ensures.defined; initials = refl; history = pushed; live = omega (arith, c.args.ready.entries.ok.0); nodes = refl })
    ∙ ap (λ (s : Seen). ready_state s c.args.ready) c.self.view_is
