use Rattle.std.proofs.Common.{◌≡◌, ◌∷◌, ◌∙◌, List, sym, subst, ap, map, Err, false}
use Rattle.clp_model.specs.declared.sort.Sort.{Sort}
use Rattle.clp_model.specs.declared.tree.Variable.{Variable}
use Rattle.clp_model.specs.declared.tree.Tree.{Tree}
use Rattle.clp_model.specs.Clauses.{Row}
use Rattle.linear_model.specs.Normal.{normal}
use Rattle.linear_model.specs.Changes.{renamed}
use Rattle.unify.specs.Unifiers.{Unifies}
use Rattle.clause_model.specs.Solved.{typed_equations}
use Rattle.clause_model.specs.Canonical.{all_within, new_clause}
use Rattle.clause_store.specs.Source.{meaning_of}
use Rattle.substitution.specs.Weights.{images}
use Rattle.substitution.specs.Made.{IsPastAny}
use Rattle.substitution.proofs.Kept.{is_of_kept, same_images}
use Rattle.clause_loader.specs.Carried.{clause_by, number_by, all_with_images}
use Rattle.clause_loader.proofs.Loads.{overflow, past_shape}
use Rattle.clause_loader.proofs.carrying.carried.Goals as goal

abbrev done : (Variable → Tree Variable) → List Sort → List Row → List Row
done f sorts rows = map (λ r. normal (renamed (number_by sorts f) r)) rows

-- under equal names for the parts
rows_are : (f : Variable → Tree Variable) (kept rows rows' : List Row) (sorts sorts' : List Sort) → rows ≡ rows' → sorts ≡ sorts' → kept ≡ done f sorts rows → kept ≡ done f sorts' rows'
rows_are f kept rows rows' sorts sorts' e d h = h ∙ ap (λ (ss : List Sort). done f ss rows) d ∙ ap (done f sorts') e

outside_are : (f : Variable → Tree Variable) (rows rows' : List Row) (sorts sorts' : List Sort) → rows ≡ rows' → sorts ≡ sorts' → all_within (map (renamed (number_by sorts f)) rows) ≡ false → all_within (map (renamed (number_by sorts' f)) rows') ≡ false
outside_are f rows rows' sorts sorts' e d h =
    ap all_within (sym (ap (λ (ss : List Sort). map (renamed (number_by ss f)) rows) d ∙ ap (map (renamed (number_by sorts' f))) e)) ∙ h

pub returns-in-Err-Overflow-clause-refused : goal.returns-in-Err-Overflow-clause-refused
returns-in-Err-Overflow-clause-refused c =
    let s = c.args.source.now in
    let f = images c.args.store.now c.args.s.now in
    overflow (clause_by f (meaning_of s))
    (outside_are f c.as_slice.result.now s.rows c.as_slice-sorts.result.now s.sorts c.as_slice.ensures c.as_slice-sorts.ensures
    (c.carried_rows.ensures.overflow (c.in-Err-Overflow.is ∙ ap Err c.in-Err-Overflow.field-0-is)))

pub carried_parts-requires-clause-of : goal.carried_parts-requires-clause-of
carried_parts-requires-clause-of c = is_of_kept c.args.store.now c.carried_rows.new.store c.carried_rows.ensures.keeps c.args.s.now c.requires.of

pub carried_parts-requires-clause-solved : goal.carried_parts-requires-clause-solved
carried_parts-requires-clause-solved c =
    let s = c.args.source.now in
    let same = same_images c.args.store.now c.carried_rows.new.store c.carried_rows.ensures.keeps c.args.s.now c.requires.of in
    let P : (Variable → Tree Variable) → Type 0 = λ g. Unifies (typed_equations s.sorts s.equations) g in
    subst P (sym same) c.requires.solved

pub carried_parts-requires-clause-rows : goal.carried_parts-requires-clause-rows
carried_parts-requires-clause-rows c =
    let s = c.args.source.now in
    let f = images c.args.store.now c.args.s.now in
    let same = same_images c.args.store.now c.carried_rows.new.store c.carried_rows.ensures.keeps c.args.s.now c.requires.of in
    rows_are f c.in-Ok.rows c.as_slice.result.now s.rows c.as_slice-sorts.result.now s.sorts c.as_slice.ensures c.as_slice-sorts.ensures c.in-Ok.ensures.rows
    ∙ ap (λ (g : Variable → Tree Variable). done g s.sorts s.rows) (sym same)

pub returns-in-Ok-carried_parts-clause-same : goal.returns-in-Ok-carried_parts-clause-same
returns-in-Ok-carried_parts-clause-same c =
    let s = c.args.source.now in
    let same = same_images c.args.store.now c.carried_rows.new.store c.carried_rows.ensures.keeps c.args.s.now c.requires.of in
    c.in-Ok-carried_parts.ensures.same ∙ ap (λ (g : Variable → Tree Variable). new_clause (clause_by g (meaning_of s))) same

pub returns-in-Err-TooLarge-clause-refused : goal.returns-in-Err-TooLarge-clause-refused
returns-in-Err-TooLarge-clause-refused c =
    let s = c.args.source.now in
    let f = images c.args.store.now c.args.s.now in
    let same = same_images c.args.store.now c.carried_rows.new.store c.carried_rows.ensures.keeps c.args.s.now c.requires.of in
    let a = c.in-Err-TooLarge.is in
    let b = c.in-Err-TooLarge.field-0-is in
    let P : (Variable → Tree Variable) → Type 0 = λ g. IsPastAny (all_with_images s.sorts g (s.head ∷ s.atoms)) in
    past_shape f (meaning_of s) c.in-Ok.rows
    (rows_are f c.in-Ok.rows c.as_slice.result.now s.rows c.as_slice-sorts.result.now s.sorts c.as_slice.ensures c.as_slice-sorts.ensures c.in-Ok.ensures.rows)
    c.in-Ok.ensures.kept (subst P same (c.carried_parts.ensures.large cc))
