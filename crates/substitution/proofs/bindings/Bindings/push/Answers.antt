use Rattle.std.proofs.Common.{arith, nat_eq}
use Rattle.std.specs.HashMap.{get}
use Rattle.substitution.proofs.Places.{places_more}
use Rattle.substitution.proofs.bindings.Bindings.push.Goals as goal

pub invariant_of-self-2 : goal.invariant_of-self-2
invariant_of-self-2 c =
    places_more c.self.inside.list.items c.reserve.new.self.items c.put.new.list.items c.args.bound (get nat_eq c.self.inside.any) (get nat_eq c.self.inside.numbers) (get nat_eq c.note.new.any) (get nat_eq c.note.new.numbers)
    c.reserve.ensures.items c.put.ensures c.self.invariant (λ vs e. c.in_ok-note.ensures.ok vs (let q = c.len-place.ensures in grind arith))
