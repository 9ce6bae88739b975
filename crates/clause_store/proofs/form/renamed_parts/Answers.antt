use Rattle.std.proofs.Common.{◌<◌, ◌≤◌, ℕ, List, ◌∷◌, All, Contains, ◌∙◌, sym, subst}
use Rattle.clp_model.specs.Trees.{mapped_all}
use Rattle.clp_model.specs.Clauses.{Row}
use Rattle.clause_model.specs.Variables.{rows_variables}
use Rattle.lin_row.specs.Rows.{IsKept}
use Rattle.term_store.specs.Trees.{trees_at, AreIn, HaveTrees}
use Rattle.term_store.proofs.Keeping.{keeps_in}
use Rattle.clause_store.specs.Stored.{renumber}
use Rattle.clause_store.proofs.Made.{made_all, same_terms, same_rows, rows_kept, met_once, met_within, met_rows}
use Rattle.clause_store.proofs.form.renamed_parts.Goals as goal

pub returns-then-is_in_order-clause-terms : goal.returns-then-is_in_order-clause-terms
returns-then-is_in_order-clause-terms c =
    let old = c.args.store.now in
    let raw = c.args.raw.now in
    let P : List ℕ → Type 0 = λ ts. HaveTrees old (raw.head ∷ ts) (mapped_all (renumber c.args.met.now) (trees_at old (raw.head ∷ raw.atoms))) in
    subst P (sym (c.in_ok-atoms.ensures ∙ c.as_slice.ensures)) (same_terms old raw.head raw.rows raw.atoms raw.sorts c.requires.raw c.args.rows c.args.met.now c.requires.clean c.requires.met (c.is_in_order.ensures.0 c.if-is_in_order.true))

pub returns-then-is_in_order-clause-rows : goal.returns-then-is_in_order-clause-rows
returns-then-is_in_order-clause-rows c =
    let raw = c.args.raw.now in
    same_rows c.args.store.now raw.head raw.rows raw.atoms raw.sorts c.requires.raw c.args.rows c.args.met.now c.requires.clean c.requires.met (c.is_in_order.ensures.0 c.if-is_in_order.true)

pub renamed_all-requires-clause-within : goal.renamed_all-requires-clause-within
renamed_all-requires-clause-within c =
    let P : List ℕ → Type 0 = AreIn c.renamed.new.store in
    subst P (sym c.as_slice-2.ensures) (keeps_in c.args.store.now c.renamed.new.store c.renamed.ensures.keeps c.args.raw.now.atoms c.requires.raw.within.1)

pub renamed_rows-requires-clause-kept : goal.renamed_rows-requires-clause-kept
renamed_rows-requires-clause-kept c =
    let raw = c.args.raw.now in
    let P : List Row → Type 0 = All IsKept in
    subst P (sym c.as_slice-3.ensures) (rows_kept c.args.store.now raw.head raw.rows raw.atoms raw.sorts c.requires.raw c.args.rows c.args.met.now c.requires.clean c.requires.met)

pub renamed_rows-requires-clause-once : goal.renamed_rows-requires-clause-once
renamed_rows-requires-clause-once c =
    let raw = c.args.raw.now in
    met_once c.args.store.now raw.head raw.rows raw.atoms raw.sorts c.requires.raw c.args.rows c.args.met.now c.requires.clean c.requires.met

pub renamed_rows-requires-clause-within : goal.renamed_rows-requires-clause-within
renamed_rows-requires-clause-within c =
    let raw = c.args.raw.now in
    let P : ℕ → Type 0 = λ k. All (λ n. (0 < n) × (n ≤ k)) c.args.met.now in
    subst P (sym c.len.ensures) (met_within c.args.store.now raw.head raw.rows raw.atoms raw.sorts c.requires.raw c.args.rows c.args.met.now c.requires.clean c.requires.met)

pub renamed_rows-requires-clause-met : goal.renamed_rows-requires-clause-met
renamed_rows-requires-clause-met c =
    let raw = c.args.raw.now in
    let P : List Row → Type 0 = λ rs. All (Contains c.args.met.now) (rows_variables rs) in
    subst P (sym c.as_slice-3.ensures) (met_rows c.args.store.now raw.head raw.rows raw.atoms raw.sorts c.requires.raw c.args.rows c.args.met.now c.requires.clean c.requires.met)

pub returns-clause-terms : goal.returns-clause-terms
returns-clause-terms c =
    let new = c.renamed_all.new.store in
    let raw = c.args.raw.now in
    let P : List ℕ → Type 0 = λ ts. HaveTrees new c.in_ok-atoms-2.atoms (mapped_all (renumber c.args.met.now) (trees_at c.renamed.new.store ts)) in
    made_all (renumber c.args.met.now) c.args.store.now c.renamed.new.store new raw.head raw.atoms c.in_ok-head.head c.in_ok-atoms-2.atoms
    c.requires.raw.within c.renamed.ensures.keeps c.renamed_all.ensures.keeps c.in_ok-head.ensures.made (subst P c.as_slice-2.ensures c.in_ok-atoms-2.ensures.made)
