-- The parts of a state as its fields have them.
use Rattle.std.specs.Prelude.{◌-◌, vec_len, vec_capacity}
use Rattle.map_state.specs.declared.state.State.TheInside.{Inside}
use Rattle.map_state.specs.Seen.{Seen}

-- each field as contracts see it, with the room that is left in each list that grows
abbrev pub seen_of : Inside → Seen
seen_of s =
    record {
      store = s.store;
      entries = s.entries.items;
      definitions = s.definitions.items;
      defined = s.defined.items;
      initials = s.initials;
      history = s.history.items;
      live = s.live;
      nodes = s.nodes;
      room = vec_capacity s.entries - vec_len s.entries;
      definition_room = vec_capacity s.definitions - vec_len s.definitions;
      defined_room = vec_capacity s.defined - vec_len s.defined;
      history_room = vec_capacity s.history - vec_len s.history;
    }
