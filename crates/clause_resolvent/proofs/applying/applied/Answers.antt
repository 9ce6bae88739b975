use Rattle.std.proofs.Common.{◌∷◌, ◌∙◌, List, subst, ap, Err, refl}
use Rattle.clp_model.specs.declared.tree.Variable.{Variable}
use Rattle.clp_model.specs.declared.tree.Tree.{Tree}
use Rattle.term_store.specs.Trees.{HaveTrees}
use Rattle.term_store.proofs.Keeping.{keeps_in}
use Rattle.substitution.specs.Weights.{images}
use Rattle.substitution.specs.Made.{IsPastAny}
use Rattle.substitution.proofs.Kept.{is_of_kept}
use Rattle.clause_resolvent.proofs.AppliedTerms.{same_terms, rows_are, outside_are}
use Rattle.clause_resolvent.proofs.applying.applied.Goals as goal

pub returns-in-Err-Overflow-clause-refused : goal.returns-in-Err-Overflow-clause-refused
returns-in-Err-Overflow-clause-refused c =
    let raw = c.args.raw.now in
    outside_are (images c.args.store.now c.args.s.now) c.as_slice.result.now raw.rows c.as_slice-sorts.result.now raw.sorts c.as_slice.ensures c.as_slice-sorts.ensures
    (c.carried_rows.ensures.overflow (c.in-Err-Overflow.is ∙ ap Err c.in-Err-Overflow.field-0-is))

pub applied_parts-requires-clause-of : goal.applied_parts-requires-clause-of
applied_parts-requires-clause-of c = is_of_kept c.args.store.now c.carried_rows.new.store c.carried_rows.ensures.keeps c.args.s.now c.requires.of

pub applied_parts-requires-clause-within : goal.applied_parts-requires-clause-within
applied_parts-requires-clause-within c = keeps_in c.args.store.now c.carried_rows.new.store c.carried_rows.ensures.keeps (c.args.raw.now.head ∷ c.args.raw.now.atoms) c.requires.within

pub returns-in-Ok-applied_parts-clause-terms : goal.returns-in-Ok-applied_parts-clause-terms
returns-in-Ok-applied_parts-clause-terms c =
    let raw = c.args.raw.now in
    let P : List (Tree Variable) → Type 0 = HaveTrees c.applied_parts.new.store (c.in-Ok-applied_parts.made.head ∷ c.in-Ok-applied_parts.made.atoms) in
    subst P (same_terms c.args.store.now c.carried_rows.new.store c.carried_rows.ensures.keeps c.args.s.now c.requires.of (raw.head ∷ raw.atoms) c.requires.within) c.in-Ok-applied_parts.ensures.terms

pub returns-in-Ok-applied_parts-clause-rows : goal.returns-in-Ok-applied_parts-clause-rows
returns-in-Ok-applied_parts-clause-rows c =
    let raw = c.args.raw.now in
    rows_are (images c.args.store.now c.args.s.now) c.in-Ok.rows c.in-Ok-applied_parts.made.rows c.as_slice.result.now raw.rows c.as_slice-sorts.result.now raw.sorts
    c.as_slice.ensures c.as_slice-sorts.ensures c.in-Ok.ensures.rows c.in-Ok.ensures.kept c.in-Ok-applied_parts.ensures.rows

pub returns-in-Err-TooLarge-clause-refused : goal.returns-in-Err-TooLarge-clause-refused
returns-in-Err-TooLarge-clause-refused c =
    let raw = c.args.raw.now in
    let a = c.in-Err-TooLarge.is in
    let b = c.in-Err-TooLarge.field-0-is in (
      refl,
      (
        c.in-Ok.rows,
        rows_are (images c.args.store.now c.args.s.now) c.in-Ok.rows c.in-Ok.rows c.as_slice.result.now raw.rows c.as_slice-sorts.result.now raw.sorts
            c.as_slice.ensures c.as_slice-sorts.ensures c.in-Ok.ensures.rows c.in-Ok.ensures.kept refl,
      ),
      subst IsPastAny (same_terms c.args.store.now c.carried_rows.new.store c.carried_rows.ensures.keeps c.args.s.now c.requires.of (raw.head ∷ raw.atoms) c.requires.within)
          (c.applied_parts.ensures.large cc),
    )
