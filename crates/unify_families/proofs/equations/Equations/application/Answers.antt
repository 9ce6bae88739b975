use Rattle.unify_families.proofs.Holding.{pairs_kept}
use Rattle.unify_families.proofs.equations.Equations.application.Goals as goal

pub returns-clause-held : goal.returns-clause-held
returns-clause-held c = pairs_kept c.args.self.now.store c.app.new.self c.args.self.now.pairs.items c.app.ensures.keeps c.requires.held
