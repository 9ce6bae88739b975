use Rattle.std.proofs.Common.{[], refl, arith}
use Rattle.term_store.specs.Entries.{tree_of, built}
use Rattle.term_store.proofs.Built.{length_store}
use Rattle.term_store.proofs.Growing.{grown, grown_entries, keeps_grown, has_last}
use Rattle.term_store.proofs.store.put.Goals as goal

pub returns-clause-are : goal.returns-clause-are
returns-clause-are c = grown_entries c.args.arguments.now c.args.entries.now.items c.push.new.self.items c.args.entry _ refl c.in_ok-push.ensures.items c.requires.are c.requires.may_follow

pub returns-clause-keeps : goal.returns-clause-keeps
returns-clause-keeps c = keeps_grown (built c.args.arguments.now [] c.args.entries.now.items) _ (tree_of c.args.arguments.now _ c.args.entry.node)
    (grown c.args.arguments.now c.args.entries.now.items c.push.new.self.items c.args.entry _ refl c.in_ok-push.ensures.items)

pub returns-clause-made : goal.returns-clause-made
returns-clause-made c = has_last (built c.args.arguments.now [] c.args.entries.now.items) _ (tree_of c.args.arguments.now _ c.args.entry.node) c.len-place.result
    (grown c.args.arguments.now c.args.entries.now.items c.push.new.self.items c.args.entry _ refl c.in_ok-push.ensures.items)
    (omega (arith, length_store c.args.arguments.now c.args.entries.now.items _ refl))
