use Rattle.std.proofs.Common.{ℕ, List, nat_eq, arith, ap, ◌∙◌, drop, ◌+◌}
use Rattle.clp_model.specs.Trees.{variables_in}
use Rattle.clp_model.specs.Predicates.{distinct_after}
use Rattle.term_store.proofs.Keeping.{rest_in, rest_size}
use Rattle.clause_store.specs.Stored.{atoms_at}
use Rattle.clause_store.proofs.Numbers.{met_more}
use Rattle.clause_source.proofs.meeting.+meet.Goals as goal

pub meet_all-loop-term-preserved : goal.meet_all-loop-term-preserved
meet_all-loop-term-preserved t c =
    let rest : List ℕ = drop (c.loop-term.term-index + 1) c.args.terms.now in
    record {
      inside = rest_in c.args.store.now c.args.terms.now c.loop-term.term-index (omega arith) c.loop-term.invariant.inside;
      met = ap (λ (found : List ℕ). distinct_after nat_eq found (variables_in (atoms_at c.args.store.now rest))) c.in_ok-meet.ensures
          ∙ met_more c.args.store.now c.args.terms.now c.loop-term.met c.loop-term.term-index c.term-item.result (omega arith) c.term-item.is ∙ c.loop-term.invariant.met;
      left = omega (arith, c.loop-term.invariant.left, rest_size c.args.store.now c.args.terms.now c.loop-term.term-index (omega arith));
    }
