use Rattle.std.proofs.Common.{arith, ap, ◌∙◌, sym, Bool, ◌||◌, nat_eq, ◌+◌, drop}
use Rattle.std.specs.List.{list_any}
use Rattle.clp_model.specs.Trees.{variables_in}
use Rattle.term_store.proofs.Keeping.{rest_in, rest_size}
use Rattle.clause_store.specs.Stored.{atoms_at}
use Rattle.rules_rows.proofs.Used.{used_from}
use Rattle.rules_rows.proofs.uses.+uses.Goals as goal

pub any_uses-loop-term-preserved : goal.any_uses-loop-term-preserved
any_uses-loop-term-preserved t c =
    let i = c.loop-term.term-index in
    let later = list_any (nat_eq c.args.var) (variables_in (atoms_at c.args.store.now (drop (i + 1) c.args.terms.now))) in
    record {
      inside = rest_in c.args.store.now c.args.terms.now i (omega arith) c.loop-term.invariant.inside;
      rest = ap (λ (b : Bool). b || later) (sym c.if-uses.false ∙ c.uses.ensures)
          ∙ sym (used_from c.args.store.now c.args.var c.args.terms.now i c.term-item.result (omega arith) c.term-item.is) ∙ c.loop-term.invariant.rest;
      left = omega (arith, c.loop-term.invariant.left, rest_size c.args.store.now c.args.terms.now i (omega arith));
    }

pub any_uses-returns-then-uses : goal.any_uses-returns-then-uses
any_uses-returns-then-uses t c =
    let i = c.loop-term.term-index in
    let later = list_any (nat_eq c.args.var) (variables_in (atoms_at c.args.store.now (drop (i + 1) c.args.terms.now))) in
    ap (λ (b : Bool). b || later) (sym c.if-uses.true ∙ c.uses.ensures)
    ∙ sym (used_from c.args.store.now c.args.var c.args.terms.now i c.term-item.result (omega arith) c.term-item.is) ∙ c.loop-term.invariant.rest
