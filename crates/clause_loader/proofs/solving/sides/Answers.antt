use Rattle.std.proofs.Common.{ap}
use Rattle.std.proofs.Common.{◌∙◌, sym}
use Rattle.clause_model.specs.Load.{any_side_large}
use Rattle.clause_store.specs.Source.{meaning_of}
use Rattle.clause_loader.proofs.Loads.{refused_side}
use Rattle.clause_loader.proofs.solving.sides.Goals as goal

pub returns-in-Err-TooLarge-clause-refused : goal.returns-in-Err-TooLarge-clause-refused
returns-in-Err-TooLarge-clause-refused c =
    let a = c.in-Err-TooLarge.is in
    let b = c.in-Err-TooLarge.field-0-is in
    refused_side (meaning_of c.args.source.now) (ap any_side_large (sym c.as_slice.ensures) ∙ c.sides_of.ensures.large cc)
