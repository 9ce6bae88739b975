use Rattle.std.proofs.Common.{◌∙◌}
use Rattle.substitution.specs.Weights.{images}
use Rattle.clause_loader.specs.Carried.{number_by}
use Rattle.clause_loader.proofs.Tables.{written_there, others_stay}
use Rattle.clause_loader.proofs.rows.note_number.Goals as goal

pub returns-clause-noted : goal.returns-clause-noted
returns-clause-noted c =
    written_there c.args.table.now.items c.args.number c.in_ok-image.image c.requires.within.0 c.requires.within.1 ∙ c.in_ok-image.ensures.value

pub returns-clause-others : goal.returns-clause-others
returns-clause-others c =
    others_stay (number_by c.args.sorts.now (images c.args.store.now c.args.s.now)) c.args.table.now.items c.args.number c.in_ok-image.image c.requires.within.0 c.requires.within.1 c.in_ok-image.ensures.value
