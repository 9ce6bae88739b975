use Rattle.std.proofs.Common.{Ok, ap, ◌∙◌, sym}
use Rattle.clause_store.proofs.Counts.{accepted}
use Rattle.clause_store.proofs.form.canonical.Goals as goal

pub returns-clause-made : goal.returns-clause-made
returns-clause-made c =
    let raw = c.args.raw.now in
    accepted c.args.store.now raw.head raw.rows raw.atoms raw.sorts c.requires.kept c.in_ok-met.ensures.within ∙ ap Ok (sym c.in_ok-renumbered.ensures.form)
