use Rattle.std.proofs.Common.{◌∙◌, sym}
use Rattle.map_state.specs.Seen.{state_of}
use Rattle.rules_unfold.proofs.Definitions.{defines, is_change}
use Rattle.rules_unfold.proofs.defining.prepare.Goals as goal

pub returns-clause-accepted : goal.returns-clause-accepted
returns-clause-accepted c =
    let given = rw c.in-Ok-Some.field-0-is at c.in-Ok-Some.ensures in
    defines (state_of c.args.state.now) c.args.source.now c.load_one.new.store c.in-Ok-Some.clause c.in_ok-defining.field-0 given.made (sym c.in_ok-refusal.ensures ∙ c.in_default.is) given.stored c.in_ok-defining.ensures

pub returns-clause-change : goal.returns-clause-change
returns-clause-change c =
    let given = rw c.in-Ok-Some.field-0-is at c.in-Ok-Some.ensures in
    is_change (state_of c.args.state.now) c.args.source.now c.load_one.new.store c.in-Ok-Some.clause c.in_ok-defining.field-0 (sym c.in_ok-refusal.ensures ∙ c.in_default.is) given.stored c.requires.steps c.in_ok-defining.ensures
