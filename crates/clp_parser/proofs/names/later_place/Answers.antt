use Rattle.std.proofs.Common.{◌∙◌, ap}
use Rattle.std.specs.Map.{lookup}
use Rattle.std.specs.Str.{bytes_eq}
use Rattle.clp_parser.specs.Names.{spelled}
use Rattle.clp_parser.proofs.Naming.{lookup_spelled}
use Rattle.clp_parser.proofs.names.later_place.Goals as goal

pub returns : goal.returns
returns c = c.copied.ensures ∙ c.get.ensures.value ∙ lookup_spelled c.text_of.result.now c.args.later.now.entries
    ∙ ap (λ w. lookup (bytes_eq w) (spelled c.args.later.now.entries)) c.text_of.ensures
