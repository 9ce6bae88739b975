use Rattle.std.proofs.Common.{◌∙◌, ap, sym, subst}
use Rattle.token_model.specs.Remaining.{Remaining, lexeme}
use Rattle.clp_grammar.specs.Input.{Input}
use Rattle.clp_parser.specs.Readable.{is_whole, IsReadable}
use Rattle.clp_parser.proofs.Inputs.{next_readable}
use Rattle.clp_parser.proofs.reader.Reader.number.Goals as goal

pub invariant_of-self : goal.invariant_of-self
invariant_of-self c =
    let names = c.self.inside.names in
    let whole = ap (λ (i : Input). is_whole (lexeme i.remaining)) c.self.view_is ∙ ap is_whole c.requires in
    subst (λ (r : Remaining). IsReadable r names) (sym c.take_number.ensures.next) (next_readable c.self.inside.cursor names c.self.invariant whole)
