use Rattle.std.proofs.Common.{◌≡◌, subst}
use Rattle.clp_model.specs.Predicates.{with_element}
use Rattle.linear_model.specs.Normal.{row_eq}
use Rattle.elim_rows.proofs.Repeats.{inserted}
use Rattle.elim_rows.proofs.kept.Kept.insert.Goals as goal
use Rattle.elim_rows.proofs.kept.Kept.insert.Goals.{in-Ok, in-Err}

pub returns-clause-value : goal.returns-clause-value
returns-clause-value c =
    elim c.match-insert.branch [
      | in-Ok w ↦ rw w.result-is (subst (λ rows. c.insert.new.self.keys ≡ with_element row_eq rows c.args.row) c.self.view_is (inserted c.self.inside.rows.keys c.insert.new.self.keys c.args.row w.in-Ok.ensures.keys))
      | in-Err w ↦ rw w.result-is tt
    ]
