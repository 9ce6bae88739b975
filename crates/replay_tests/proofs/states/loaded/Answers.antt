use Rattle.std.proofs.Common.{arith, ap, length, List, map}
use Rattle.std.proofs.lemmas.List.{length-map}
use Rattle.clause_store.specs.declared.source.SourceClause.{SourceClause}
use Rattle.clause_store.specs.Source.{meaning_of}
use Rattle.clause_loader.specs.Loaded.{place_in, program_of}
use Rattle.replay_laws.proofs.Loading.{loaded_places}
use Rattle.replay_tests.proofs.states.loaded.Goals as goal

pub returns-in-Ok-load-clause-places : goal.returns-in-Ok-load-clause-places
returns-in-Ok-load-clause-places c =
    let source = ap (λ (cs : List SourceClause). length cs) c.as_slice.ensures in
    let few = c.in-Ok.ensures.few in
    let l = loaded_places (map meaning_of c.as_slice.result.now) (program_of c.in-Ok-load.loaded) c.in-Ok-load.ensures.ok in
    let long = l.long in
    let count = length-map c.as_slice.result.now meaning_of in
    let items = length-map c.in-Ok-load.loaded.clauses.items (place_in c.in-Ok-load.loaded.store) in
    omega (arith, long, items, count, source, few, c.in-Ok-load.loaded.clauses.ok.0)

pub returns-in-Ok-load-clause-nodes : goal.returns-in-Ok-load-clause-nodes
returns-in-Ok-load-clause-nodes c = (loaded_places (map meaning_of c.as_slice.result.now) (program_of c.in-Ok-load.loaded) c.in-Ok-load.ensures.ok).small
