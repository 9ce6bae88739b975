use Rattle.std.proofs.Common.{arith, length}
use Rattle.term_store.proofs.Keeping.{rest_in, rest_size}
use Rattle.substitution.proofs.Weighed.{item_in, item_size}
use Rattle.clause_fold.proofs.Marked.{term_numbered, terms_more}
use Rattle.clause_fold.proofs.marks.Marks.+add_term.Goals as goal

pub add_terms-loop-term-preserved : goal.add_terms-loop-term-preserved
add_terms-loop-term-preserved t c = record {
  inside = rest_in c.args.store.now c.args.terms.now c.loop-term.term-index (omega arith) c.loop-term.invariant.inside;
  added = terms_more c.args.store.now c.args.terms.now c.loop-term.term-index c.term-item.result c.args.self.now c.loop-term.self c.add_term.new.self (omega arith) c.term-item.is c.loop-term.invariant.added c.add_term.ensures;
  left = omega (arith, c.loop-term.invariant.left, rest_size c.args.store.now c.args.terms.now c.loop-term.term-index (omega arith));
}

pub add_terms-add_term-requires : goal.add_terms-add_term-requires
add_terms-add_term-requires t c =
    let store = c.args.store.now in
    let terms = c.args.terms.now in
    let i = c.loop-term.term-index in
    let within = item_in store terms i c.term-item.result (omega arith) c.term-item.is c.requires.within in
    let smaller = item_size store terms i c.term-item.result (omega arith) c.term-item.is in
    let down = c.decreases in
    (omega (arith, smaller, down), (within, term_numbered store terms i c.term-item.result (length c.loop-term.self) (length c.args.self.now) (omega arith) c.term-item.is c.loop-term.invariant.added.count c.requires.numbered))
