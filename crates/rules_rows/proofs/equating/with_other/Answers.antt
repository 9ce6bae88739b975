use Rattle.std.proofs.Common.{◌≡◌, ◌∙◌, List, ℕ, refl, inr, ap, subst, map, Err}
use Rattle.clp_model.specs.declared.tree.Variable.{Variable}
use Rattle.clp_model.specs.declared.tree.Tree.{Tree}
use Rattle.clp_model.specs.Trees.{mapped, mapped_all}
use Rattle.clp_model.specs.Clauses.{Row}
use Rattle.linear_model.specs.Normal.{normal}
use Rattle.linear_model.specs.Changes.{renamed}
use Rattle.term_store.specs.Trees.{tree_at, trees_at, HaveTrees}
use Rattle.term_store.proofs.Keeping.{has_tree_kept}
use Rattle.clause_store.specs.Stored.{clause_in}
use Rattle.replace_model.specs.Rows.{replacing}
use Rattle.rules_rows.specs.Replaced.{with_other}
use Rattle.rules_rows.proofs.Broken.{var_num, to_num}
use Rattle.rules_rows.proofs.Sorted.{moved_parts, moved_same, moved_outside}
use Rattle.rules_rows.proofs.equating.with_other.Goals as goal

-- the atoms under the clause's own name
atoms_have : (f : Variable → Variable) (store scratch : List (Tree Variable)) (atoms seen terms : List ℕ) → seen ≡ terms → HaveTrees scratch atoms (mapped_all f (trees_at store seen)) → HaveTrees scratch atoms (mapped_all f (trees_at store terms))
atoms_have f store scratch atoms seen terms e h = subst (λ (ts : List ℕ). HaveTrees scratch atoms (mapped_all f (trees_at store ts))) e h

rows_made : (f : ℕ → ℕ) (rows seen made : List Row) → seen ≡ rows → made ≡ map (λ r. normal (renamed f r)) seen → made ≡ map (λ r. normal (renamed f r)) rows
rows_made f rows seen made e h = h ∙ ap (map (λ r. normal (renamed f r))) e

pub returns-in-Err-Overflow-clause-refused : goal.returns-in-Err-Overflow-clause-refused
returns-in-Err-Overflow-clause-refused c =
    inr (
      refl,
      moved_outside (clause_in c.args.store.now c.args.c.now) c.args.var c.args.to c.as_slice.result.now c.as_slice.ensures
          (c.replaced_rows.ensures.overflow (c.in-Err-Overflow.is ∙ ap Err c.in-Err-Overflow.field-0-is)),
    )

pub returns-clause-same : goal.returns-clause-same
returns-clause-same c =
    let store = c.args.store.now in
    let scratch = c.replaced_all.new.into in
    let d = c.args.c.now in
    let v = c.args.var in
    let w = c.args.to in
    moved_same scratch store d v w c.requires.stored c.in_ok-head.head c.in-Ok.rows c.in_ok-atoms.atoms c.in_ok-sorts.sorts
    (has_tree_kept c.replaced.new.into scratch c.in_ok-head.head (mapped (with_other v w) (tree_at store d.head)) c.replaced_all.ensures.keeps c.in_ok-head.ensures.made)
    (atoms_have (with_other v w) store scratch c.in_ok-atoms.atoms c.as_slice-2.result.now d.atoms c.as_slice-2.ensures c.in_ok-atoms.ensures.made)
    (rows_made (replacing v w) d.rows c.as_slice.result.now c.in-Ok.rows c.as_slice.ensures c.in-Ok.ensures.rows)
    (c.in_ok-sorts.ensures ∙ c.as_slice-3.ensures)

pub returns-clause-raw : goal.returns-clause-raw
returns-clause-raw c =
    let store = c.args.store.now in
    let scratch = c.replaced_all.new.into in
    let d = c.args.c.now in
    let v = c.args.var in
    let w = c.args.to in
    let clause = clause_in store d in
    moved_parts scratch store d v w c.requires.stored c.in_ok-head.head c.in-Ok.rows c.in_ok-atoms.atoms c.in_ok-sorts.sorts
    (has_tree_kept c.replaced.new.into scratch c.in_ok-head.head (mapped (with_other v w) (tree_at store d.head)) c.replaced_all.ensures.keeps c.in_ok-head.ensures.made)
    (atoms_have (with_other v w) store scratch c.in_ok-atoms.atoms c.as_slice-2.result.now d.atoms c.as_slice-2.ensures c.in_ok-atoms.ensures.made)
    (rows_made (replacing v w) d.rows c.as_slice.result.now c.in-Ok.rows c.as_slice.ensures c.in-Ok.ensures.rows)
    (c.in_ok-sorts.ensures ∙ c.as_slice-3.ensures)
    (var_num clause v w c.requires.unbroken) (to_num clause v w c.requires.unbroken) c.in-Ok.ensures.kept
