use Rattle.std.proofs.Common.{◌≡◌, subst}
use Rattle.clp_model.specs.Predicates.{with_element}
use Rattle.linear_model.specs.Normal.{row_eq}
use Rattle.clause_store.proofs.Repeats.{inserted}
use Rattle.clause_store.proofs.cleaning.CleanRows.insert.Goals as goal
use Rattle.clause_store.proofs.cleaning.CleanRows.insert.Goals.{in-Ok, in-Err}

pub returns : goal.returns
returns c = record {
  value = elim c.match-insert.branch [
    | in-Ok w ↦ rw w.result-is (subst (λ rows. c.insert.new.self.keys ≡ with_element row_eq rows c.args.row) c.self.view_is (inserted c.self.inside.rows.keys c.insert.new.self.keys c.args.row w.in-Ok.ensures.keys))
    | in-Err w ↦ rw w.result-is tt
  ];
}
