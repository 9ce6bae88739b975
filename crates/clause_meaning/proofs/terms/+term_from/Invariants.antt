use Rattle.std.proofs.Common.{◌≡◌, drop}
use Rattle.clp_grammar.specs.Terms.{terms_of}
use Rattle.clause_meaning.proofs.Following.{terms_after}
use Rattle.clause_meaning.proofs.terms.+term_from.Given as goal

abbrev pub invariant-terms-loop-part : goal.invariant-terms-loop-part
invariant-terms-loop-part l = terms_of l.parts l.fn.known ≡ terms_after l.found (drop l.part-index l.parts) l.known
