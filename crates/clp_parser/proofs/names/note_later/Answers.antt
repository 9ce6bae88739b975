use Rattle.std.proofs.Common.{◌∙◌, arith}
use Rattle.clp_parser.proofs.Naming.{spelled_push}
use Rattle.clp_parser.proofs.names.note_later.Goals as goal

pub returns-clause-ok : goal.returns-clause-ok
returns-clause-ok c = spelled_push c.args.later.now c.in_ok-key.key c.args.word.now c.args.place c.insert.new.self.entries
    (c.in_ok-key.ensures.ok ∙ c.text_of.ensures) c.requires.new c.in_ok-insert.ensures.entries (omega arith)
