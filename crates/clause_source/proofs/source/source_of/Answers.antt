use Rattle.std.proofs.Common.{◌≡◌, ◌<◌, ◌≤◌, ℕ, List, [], length, nat_eq, All, Contains, ◌∙◌, sym, subst}
use Rattle.clp_model.specs.Clauses.{Row}
use Rattle.clp_model.specs.Predicates.{distinct_after}
use Rattle.clause_model.specs.Variables.{rows_variables, variables_as_printed}
use Rattle.clause_store.specs.Stored.{clause_in}
use Rattle.clause_source.proofs.Sources.{met_few, met_once, met_within, met_rows, source_made, is_formed, is_narrow, is_loaded_again}
use Rattle.clause_source.proofs.source.source_of.Goals as goal

pub tree_of-requires-clause-few : goal.tree_of-requires-clause-few
tree_of-requires-clause-few c =
    let P : List ℕ → Type 0 = λ met. length met ≤ 256 in
    subst P (sym (c.as_slice-met.ensures ∙ c.in_ok-met.ensures)) (met_few c.args.store.now c.args.c.now c.requires)

pub renamed_rows-requires-clause-few : goal.renamed_rows-requires-clause-few
renamed_rows-requires-clause-few c =
    let P : List ℕ → Type 0 = λ met. length met ≤ 256 in
    subst P (sym (c.as_slice-met.ensures ∙ c.in_ok-met.ensures)) (met_few c.args.store.now c.args.c.now c.requires)

pub renamed_rows-requires-clause-once : goal.renamed_rows-requires-clause-once
renamed_rows-requires-clause-once c =
    let P : List ℕ → Type 0 = λ met. distinct_after nat_eq [] met ≡ met in
    subst P (sym (c.as_slice-met.ensures ∙ c.in_ok-met.ensures)) (met_once c.args.store.now c.args.c.now c.requires)

pub renamed_rows-requires-clause-within : goal.renamed_rows-requires-clause-within
renamed_rows-requires-clause-within c =
    let P : List ℕ → Type 0 = λ met. All (λ n. (0 < n) × (n ≤ c.len.result)) met in
    let Q : ℕ → Type 0 = λ count. All (λ n. (0 < n) × (n ≤ count)) (variables_as_printed (clause_in c.args.store.now c.args.c.now)) in
    subst P (sym (c.as_slice-met.ensures ∙ c.in_ok-met.ensures)) (subst Q (sym c.len.ensures) (met_within c.args.store.now c.args.c.now c.requires))

pub renamed_rows-requires-clause-met : goal.renamed_rows-requires-clause-met
renamed_rows-requires-clause-met c =
    let P : List ℕ → Type 0 = λ met. All (Contains met) (rows_variables c.as_slice.result.now) in
    let Q : List Row → Type 0 = λ rows. All (Contains (variables_as_printed (clause_in c.args.store.now c.args.c.now))) (rows_variables rows) in
    subst P (sym (c.as_slice-met.ensures ∙ c.in_ok-met.ensures)) (subst Q (sym c.as_slice.ensures) (met_rows c.args.store.now c.args.c.now c.requires))

pub trees_of-requires-clause-few : goal.trees_of-requires-clause-few
trees_of-requires-clause-few c =
    let P : List ℕ → Type 0 = λ met. length met ≤ 256 in
    subst P (sym (c.as_slice-met.ensures ∙ c.in_ok-met.ensures)) (met_few c.args.store.now c.args.c.now c.requires)

pub returns-clause-is : goal.returns-clause-is
returns-clause-is c =
    source_made c.args.store.now c.args.c.now c.as_slice-met.result.now (c.as_slice-met.ensures ∙ c.in_ok-met.ensures) _ _ _ _ _ _ _ _
    c.in_ok-tree_of.ensures c.new.ensures c.as_slice.ensures c.in_ok-renamed_rows.ensures c.as_slice-2.ensures c.in_ok-trees_of.ensures c.as_slice-3.ensures c.in_ok-sorts_of.ensures

pub returns-clause-formed : goal.returns-clause-formed
returns-clause-formed c = is_formed c.args.store.now c.args.c.now c.requires _ (returns-clause-is c)

pub returns-clause-narrow : goal.returns-clause-narrow
returns-clause-narrow c = is_narrow c.args.store.now c.args.c.now c.requires _ (returns-clause-is c)

pub returns-clause-again : goal.returns-clause-again
returns-clause-again c = is_loaded_again c.args.store.now c.args.c.now c.requires _ (returns-clause-is c)
