use Rattle.std.proofs.Common.{◌-◌, ◌+◌, ◌∙◌, ap, sym, [], ◌∷◌, ◌++◌}
use Rattle.clp_grammar.specs.Evaluation.{with_value}
use Rattle.clp_grammar.specs.Grammar.{clauses_from}
use Rattle.clp_reader.proofs.Turns.{one_more, passes, reads}
use Rattle.clp_reader.proofs.clauses.clauses.Goals.{then-sees-2+in_ok-directive, else-sees-2+in_ok-next_clause+in_ok-push}
use Rattle.clp_reader.proofs.clauses.clauses.Goals as goal

pub loop-turn-preserved : goal.loop-turn-preserved
loop-turn-preserved c =
    let turns = c.left-turn-end.result - (c.loop-turn._turn + 1) in
    let e = one_more (λ n. clauses_from n c.loop-turn.found c.loop-turn.reader.remaining) _ c.loop-turn._turn c.loop-turn-test.true c.loop-turn.invariant in
    elim c.if-sees-2.branch [
      | then-sees-2+in_ok-directive w ↦
          let h = e ∙ (passes turns c.loop-turn.found c.loop-turn.reader.remaining w.if-sees-2.ensures.next
          ∙ ap (λ o. with_value o (clauses_from turns c.loop-turn.found)) w.in_ok-directive.ensures.text) in
          let f = w.found-is in
          let r = w.reader-is in
          cc
      | else-sees-2+in_ok-next_clause+in_ok-push w ↦
          let h = e ∙ (reads turns c.loop-turn.found c.loop-turn.reader.remaining (sym c.if-sees.ensures.value) (sym w.if-sees-2.ensures.value)
          ∙ ap (λ o. with_value o (λ p. clauses_from turns (c.loop-turn.found ++ p.0 ∷ []) p.1)) w.in_ok-next_clause.ensures) in
          let f = w.found-is in
          let r = w.reader-is in
          let p = w.in_ok-push.ensures.ok in
          cc
    ]
