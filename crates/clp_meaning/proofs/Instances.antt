-- Programs whose clauses have the same instances, and the instances of a loaded clause.
use Rattle.std.proofs.Common.{List, refl, sym, subst}
use Rattle.clp_model.specs.Clauses.{Clause, of_source}
use Rattle.clp_model.specs.Proof.{Node, InstanceIn}
use Rattle.clp_model.proofs.Carrying.{Carries, carried}
use Rattle.clp_model.proofs.CanonicalForms.{new_clause_is_canonical}
use Rattle.clp_meaning.specs.Laws.{HaveSameInstances, HasClausesOf, SameInstancesKeepProvability, LoadedClauseKeepsInstances}
use Rattle.clp_meaning.proofs.Renaming.{canonical_form_keeps_instances}

onward : (p q : List Clause) → HasClausesOf q p → Carries (InstanceIn p) (InstanceIn q)
onward p q h a body (c, inside, i) ps = let d = h c inside in Node (d.0, d.1, d.2 a body i) ps

pub same_instances_keep_provability : SameInstancesKeepProvability
same_instances_keep_provability p q there back a =
    (carried (InstanceIn q) (InstanceIn p) (onward q p back), carried (InstanceIn p) (InstanceIn q) (onward p q there))

pub loaded_clause_keeps_instances : LoadedClauseKeepsInstances
loaded_clause_keeps_instances s d made =
    let form = (new_clause_is_canonical (of_source s) d made).0 in
    let P : Clause → Type 0 = λ c. HaveSameInstances c (of_source s) in
    subst P (sym form) (canonical_form_keeps_instances (of_source s) (record { equations = refl; rows = refl }))
