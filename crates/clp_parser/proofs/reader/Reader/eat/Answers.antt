use Rattle.std.proofs.Common.{sym, subst}
use Rattle.token_model.specs.Remaining.{Remaining}
use Rattle.clp_parser.specs.Readable.{IsReadable}
use Rattle.clp_parser.proofs.Inputs.{after_readable}
use Rattle.clp_parser.proofs.reader.Reader.eat.Goals as goal

pub invariant_of-self : goal.invariant_of-self
invariant_of-self c =
    let names = c.self.inside.names in
    subst (λ (r : Remaining). IsReadable r names) (sym c.eat.ensures.after) (after_readable c.args.wanted c.self.inside.cursor names c.self.invariant c.requires)
