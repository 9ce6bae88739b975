use Rattle.std.proofs.Common.{arith, subst, ℕ}
use Rattle.term_store.specs.Trees.{tree_at}
use Rattle.term_store.specs.Entries.{Measures}
use Rattle.term_store.proofs.Built.{length_store, measured}
use Rattle.term_store.proofs.store.Store.entry.Goals as goal

pub index-requires : goal.index-requires
index-requires c = omega (arith, length_store c.self.inside.arguments.items c.self.inside.entries.items c.args.self.now c.self.view_is)

pub returns : goal.returns
returns c =
    let P : ℕ → Type 0 = λ t. Measures (tree_at c.args.self.now t) c.index.result.now.size c.index.result.now.depth in
    subst P c.t.view_is (measured c.self.inside.arguments.items c.self.inside.entries.items c.args.self.now c.self.view_is c.self.invariant c.t.inside.place c.index.result.now
    (omega (arith, length_store c.self.inside.arguments.items c.self.inside.entries.items c.args.self.now c.self.view_is)) c.index.ensures)
