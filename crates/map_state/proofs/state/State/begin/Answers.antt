use Rattle.std.proofs.Common.{refl, ap, ◌∙◌, ◌-◌, List, arith, vec_len, Option}
use Rattle.std.specs.Prelude.{vec_capacity}
use Rattle.clause_store.specs.declared.clause.Clause.{Clause}
use Rattle.map_state.specs.Rows.{count_of}
use Rattle.clause_model.specs.Load.{sizes_of}
use Rattle.clause_loader.specs.Loaded.{clauses_in}
use Rattle.map_state.specs.Seen.{Seen}
use Rattle.map_state.proofs.Loading.{begun_state, begun_sound}
use Rattle.map_state.proofs.state.State.begin.Goals as goal

pub invariant_of-result : goal.invariant_of-result
invariant_of-result c =
    let count = ap count_of c.as_slice.ensures.value in
    let nodes = ap (λ (cs : List (Option Clause)). sizes_of (clauses_in c.args.store cs)) c.as_slice-2.ensures.value in
    begun_sound c.args.store c.args.clauses.items c.args.preds _
    (record { store_is = refl; entries = c.in_ok-entries.ensures; definitions = c.new.ensures.items; defined = c.new-2.ensures.items; initials = refl; history = c.new-3.ensures.items; live = c.present_count-live.ensures.value ∙ count; nodes = c.total_size-nodes.ensures ∙ nodes })
    c.requires.stored (omega (arith, c.requires.places, c.args.clauses.ok.0)) (omega (arith, c.present_count-live.ensures.value, c.present_count-live.ensures.few, count)) c.requires.nodes

pub returns : goal.returns
returns c =
    let count = ap count_of c.as_slice.ensures.value in
    let nodes = ap (λ (cs : List (Option Clause)). sizes_of (clauses_in c.args.store cs)) c.as_slice-2.ensures.value in
    let seen : Seen =
    record {
      store = c.args.store;
      entries = c.in_ok-entries.entries.items;
      definitions = c.new.result.items;
      defined = c.new-2.result.items;
      initials = c.args.preds;
      history = c.new-3.result.items;
      live = c.present_count-live.result;
      nodes = c.total_size-nodes.result;
      room = vec_capacity c.in_ok-entries.entries - vec_len c.in_ok-entries.entries;
      definition_room = vec_capacity c.new.result - vec_len c.new.result;
      defined_room = vec_capacity c.new-2.result - vec_len c.new-2.result;
      history_room = vec_capacity c.new-3.result - vec_len c.new-3.result;
    } in
    begun_state c.args.store c.args.clauses.items c.args.preds seen
    (record { store_is = refl; entries = c.in_ok-entries.ensures; definitions = c.new.ensures.items; defined = c.new-2.ensures.items; initials = refl; history = c.new-3.ensures.items; live = c.present_count-live.ensures.value ∙ count; nodes = c.total_size-nodes.ensures ∙ nodes })
