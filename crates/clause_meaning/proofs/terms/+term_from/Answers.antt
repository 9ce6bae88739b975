use Rattle.std.proofs.Common.{◌∙◌, ap, sym, arith}
use Rattle.clp_grammar.specs.Terms.{term_from}
use Rattle.clause_meaning.proofs.Following.{terms_begin, terms_turn}
use Rattle.clause_meaning.proofs.terms.+term_from.Goals as goal

pub terms-loop-part-init : goal.terms-loop-part-init
terms-loop-part-init t c = terms_begin c.args.parts.now c.args.known.now (c.from_vec-found.ensures ∙ c.in_ok-with_capacity.ensures.items)

pub terms-loop-part-preserved : goal.terms-loop-part-preserved
terms-loop-part-preserved t c = terms_turn c.loop-part.found c.push.new.self c.in_ok-term.term c.args.parts.now c.loop-part.part-index c.part-item.result c.loop-part.known c.term_from.new.known
    (omega arith) c.part-item.is c.loop-part.invariant
    (ap (λ begin. term_from begin c.part-item.result c.loop-part.known) (sym c.place_of-begin.ensures) ∙ c.in_ok-term.ensures) c.in_ok-push.ensures.ok
