use Rattle.std.proofs.Common.{pos}
use Rattle.std.proofs.lemmas.Int.{to_z-of_z}
use Rattle.chain_items.proofs.Merging.{quotients_step, within_step, past_step}
use Rattle.chain_items.proofs.reduce.combined_quotients.Goals as goal

pub loop-next-preserved : goal.loop-next-preserved
loop-next-preserved c =
    let s = c.in-Some.next in
    let l = c.loop-next in
    let d = pos c.args.divisor in
    record {
      first_within = c.in-Some.ensures.first_within l.invariant.first_within;
      second_within = c.in-Some.ensures.second_within l.invariant.second_within;
      so_far = quotients_step d c.push_quotient.new.into.items l.quotients.items _ _ _ s.variable s.coefficient c.in-Ok.ensures.value c.in-Some.ensures.some l.invariant.so_far;
      within = within_step c.args.bound d c.push_quotient.new.into.items l.quotients.items s.variable s.coefficient c.in-Ok.ensures.value c.in-Ok.ensures.within l.invariant.within;
    }

pub returns-in-Err-clause-overflow : goal.returns-in-Err-clause-overflow
returns-in-Err-clause-overflow c e =
    let fa = c.ranges.a in
    let fb = c.ranges.b in
    let s = c.in-Some.next in
    past_step c.args.bound c.args.divisor c.loop-next.quotients.items _ _ _ s.variable s.coefficient (c.in-Err.ensures.overflow (cc)) (simp to_z-of_z at c.in-Some.ensures.some) (simp to_z-of_z at c.loop-next.invariant.so_far)
