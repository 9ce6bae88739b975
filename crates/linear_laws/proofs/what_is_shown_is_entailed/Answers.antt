use Rattle.linear_laws.proofs.Certificates.{shown_is_entailed, equation_is_entailed, shown_false}
use Rattle.linear_laws.proofs.what_is_shown_is_entailed.Goals as goal

pub returns : goal.returns
returns c = record { inequality = shown_is_entailed; equation = equation_is_entailed; falsehood = shown_false }
