use Rattle.std.proofs.Common.{List, All, refl, ◌∙◌, sym, subst}
use Rattle.clause_store.specs.declared.source.SourceClause.{SourceClause}
use Rattle.clause_loader.specs.WellFormed.{IsWellFormed}
use Rattle.loader_tests.proofs.nodes.fault_of.Goals as goal

pub load-requires-clause-formed : goal.load-requires-clause-formed
load-requires-clause-formed c =
    let P : List SourceClause → Type 0 = All IsWellFormed in
    subst P (c.as_slice.ensures.value ∙ sym c.as_slice-2.ensures.value) (c.if-not-are_well_formed.ensures.formed refl)
