use Rattle.std.proofs.Common.{◌≡◌, drop}
use Rattle.clp_grammar.specs.Terms.{met_each}
use Rattle.clause_meaning.proofs.terms.+meet_all.Given as goal

abbrev pub invariant-meet_each-loop-part : goal.invariant-meet_each-loop-part
invariant-meet_each-loop-part l = met_each l.parts l.fn.known ≡ met_each (drop l.part-index l.parts) l.known
