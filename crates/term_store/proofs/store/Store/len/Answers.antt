use Rattle.std.proofs.Common.{arith}
use Rattle.term_store.proofs.Built.{length_store}
use Rattle.term_store.proofs.store.Store.len.Goals as goal

pub returns : goal.returns
returns c = omega (arith, length_store c.self.inside.arguments.items c.self.inside.entries.items c.args.self.now c.self.view_is)
