-- What ends a clause.
use Rattle.token_model.specs.Parsers.{Parser}
use Rattle.clp_grammar.specs.Input.{Input}
use Rattle.clp_grammar.specs.Drafts.{end, end_or_finish}
use Rattle.clp_parser.specs.declared.drafts.Ending.{Ending}
use Rattle.clp_parser.specs.declared.drafts.Ending.TheVariants.{Dot, DotOrFinish}

abbrev pub ending_of : Ending → Parser Input (Unit {0})
ending_of Dot = end
ending_of DotOrFinish = end_or_finish
