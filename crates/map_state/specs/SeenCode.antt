-- The parts of a state as plain data, by which a proof tells them apart.
use Rattle.std.specs.Prelude.{ℕ, List, Option, refl}
use Rattle.std.specs.Coded.{Coded, code_by, coded×, coded_ℕ, coded_list, coded_option}
use Rattle.clp_model.specs.contracts.tree.Tree as trees
use Rattle.clp_model.specs.contracts.tree.Variable as variables
use Rattle.clp_model.specs.contracts.predicate.Pred as predicates
use Rattle.clp_model.specs.declared.predicate.Pred.{Pred}
use Rattle.clause_store.specs.contracts.clause.Clause as clauses
use Rattle.clause_store.specs.declared.clause.Clause.{Clause as Kept}
use Rattle.map_model.specs.contracts.step.Step as steps
use Rattle.map_model.specs.declared.step.Step.{Step}
use Rattle.map_state.specs.contracts.entry.Entry as rows
use Rattle.map_state.specs.declared.entry.Entry.{Entry as Row}
use Rattle.map_state.specs.Seen.{Trees, Seen}

-- how many entries, kept definitions, their predicates and steps there is room for
abbrev Rooms : Type 0
Rooms = ℕ × (ℕ × (ℕ × ℕ))

abbrev coded_rooms : Coded Rooms
coded_rooms = coded× coded_ℕ (coded× coded_ℕ (coded× coded_ℕ coded_ℕ))

-- the kept definitions and their predicates
abbrev Definitions : Type 0
Definitions = List Kept × List Pred

abbrev coded_definitions : Coded Definitions
coded_definitions = coded× (coded_list clauses.the_row.coded) (coded_list predicates.the_row.coded)

-- the parts in a tuple, and back
abbrev pub seen_code : Coded Seen
seen_code =
    code_by (Trees × (List (Option Row) × (Definitions × (List Pred × (List Step × (ℕ × (ℕ × Rooms)))))))
    (coded× (coded_list (trees.the_row variables.the_row).coded) (coded× (coded_list (coded_option rows.the_row.coded)) (coded× coded_definitions (coded× (coded_list predicates.the_row.coded) (coded× (coded_list steps.the_row.coded) (coded× coded_ℕ (coded× coded_ℕ coded_rooms)))))))
    (λ s. (s.store, (s.entries, ((s.definitions, s.defined), (s.initials, (s.history, (s.live, (s.nodes, (s.room, (s.definition_room, (s.defined_room, s.history_room)))))))))))
    (λ p. record {
      store = p.0;
      entries = p.1.0;
      definitions = p.1.1.0.0;
      defined = p.1.1.0.1;
      initials = p.1.1.1.0;
      history = p.1.1.1.1.0;
      live = p.1.1.1.1.1.0;
      nodes = p.1.1.1.1.1.1.0;
      room = p.1.1.1.1.1.1.1.0;
      definition_room = p.1.1.1.1.1.1.1.1.0;
      defined_room = p.1.1.1.1.1.1.1.1.1.0;
      history_room = p.1.1.1.1.1.1.1.1.1.1;
    })
    (λ _. refl)
