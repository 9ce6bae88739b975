use Rattle.clause_loader.proofs.Noting.{key_noted}
use Rattle.clause_loader.proofs.found.Found.note.Goals as goal

pub returns : goal.returns
returns c = key_noted c.self.inside.keys.keys c.insert.new.self.keys (c.in_ok-name.name, c.args.arity) c.args.self.now c.args.name.now c.in_ok-insert.ensures.keys c.self.view_is c.in_ok-name.ensures.ok
