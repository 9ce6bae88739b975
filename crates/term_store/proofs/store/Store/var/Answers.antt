use Rattle.term_store.proofs.Built.{has_variable}
use Rattle.term_store.proofs.store.Store.var.Goals as goal

pub returns-in-Some-clause-made : goal.returns-in-Some-clause-made
returns-in-Some-clause-made c = has_variable c.self.inside.arguments.items c.self.inside.entries.items c.args.self.now c.self.view_is c.self.invariant
    c.as_slice.result.now c.as_slice.ensures.value c.args.number c.args.sort c.in-Some.t c.in-Some.ensures
