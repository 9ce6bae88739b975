use Rattle.std.proofs.Common.{ap, sym, ◌∙◌, ◌-◌, subst, List, Option}
use Rattle.map_state.specs.declared.entry.Entry.{Entry}
use Rattle.map_state.specs.Seen.{Seen, AllStored}
use Rattle.map_state.proofs.Places.{stored_fetched}
use Rattle.map_state.proofs.state.State.fetch.Goals as goal

pub returns-clause-stored : goal.returns-clause-stored
returns-clause-stored c =
    let P : Seen → Type 0 = λ s. AllStored s.store s.entries in
    let Q : List (Option Entry) → Type 0 = AllStored c.args.self.now.store in
    let rows = c.deref.ensures.value ∙ ap (λ (s : Seen). s.entries) c.self.view_is in
    let stored = subst Q (sym rows) (subst P c.self.view_is c.self.invariant.stored) in
    let lookup = c.in_ok-get.ensures.lookup in
    stored_fetched c.args.self.now.store c.deref.result.now (c.args.id - 1) c.in_ok-get.field-0.now c.as_ref.result stored c.as_ref.ensures.value lookup.0 lookup.1
