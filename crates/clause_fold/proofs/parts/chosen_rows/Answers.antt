use Rattle.std.proofs.Common.{◌++◌, ◌∷◌, [], suc, ◌+◌, drop, List, sym, ap, ◌∙◌}
use Rattle.std.specs.Prelude.{pos}
use Rattle.clp_model.specs.declared.sort.Rel.TheVariants.{Eq}
use Rattle.clp_model.specs.Clauses.{Row}
use Rattle.fold_model.specs.Positions as spec
use Rattle.clause_fold.proofs.Elements.{chosen_skip, chosen_more}
use Rattle.clause_fold.proofs.parts.chosen_rows.Goals as goal
use Rattle.clause_fold.proofs.parts.chosen_rows.Goals.{then-is_given+in_ok-push_copy, else-is_given}

pub loop-i-preserved : goal.loop-i-preserved
loop-i-preserved c = elim c.if-is_given.branch [
  | then-is_given+in_ok-push_copy w ↦
      let row = w.index-rows-i.result in
      let is = w.kept-is ∙ w.in_ok-push_copy.ensures ∙ ap (λ (r : Row). c.loop-i.kept ++ r ∷ []) w.index-rows-i.is in
      ap (λ (rs : List Row). rs ++ spec.chosen_from (suc (c.loop-i.i + 1)) c.args.positions.now (drop (c.loop-i.i + 1) c.args.rows.now)) is
      ∙ chosen_more c.args.positions.now c.args.rows.now c.loop-i.kept (spec.chosen c.args.positions.now c.args.rows.now) c.loop-i.i row c.loop-i-test.true (sym w.if-is_given.ensures) c.loop-i.invariant
  | else-is_given w ↦
      ap (λ (rs : List Row). rs ++ spec.chosen_from (suc (c.loop-i.i + 1)) c.args.positions.now (drop (c.loop-i.i + 1) c.args.rows.now)) w.kept-is
      ∙ chosen_skip c.args.positions.now c.args.rows.now c.loop-i.kept (spec.chosen c.args.positions.now c.args.rows.now) c.loop-i.i (record { rel = Eq; pairs = []; constant = pos 0 }) c.loop-i-test.true (sym w.if-is_given.ensures) c.loop-i.invariant
]
