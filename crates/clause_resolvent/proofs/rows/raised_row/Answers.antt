use Rattle.std.proofs.Common.{◌∙◌, subst, sym, ap, All, List, ℕ, Err, refl}
use Rattle.std.proofs.Math.IntN.{ℤ}
use Rattle.lin_row.specs.Rows.{VariablesRise}
use Rattle.clause_loader.proofs.Tables.{all_pairs}
use Rattle.clause_resolvent.specs.Raised.{IsLowNumber, raised_pairs}
use Rattle.clause_resolvent.proofs.RaisedRows.{raised_rise, made_is, never_outside}
use Rattle.clause_resolvent.proofs.rows.raised_row.Goals as goal

pub raised_pairs-requires-clause-low : goal.raised_pairs-requires-clause-low
raised_pairs-requires-clause-low c =
    let P : List (ℕ × ℤ) → Type 0 = λ ps. All (λ p. IsLowNumber p.0) ps in
    subst P (sym c.pairs.ensures.value) (all_pairs IsLowNumber c.args.row.now c.requires.low)

pub with_pairs-requires : goal.with_pairs-requires
with_pairs-requires c = record {
  rise = subst VariablesRise (sym (c.as_slice.ensures ∙ c.in_ok-pairs.ensures ∙ ap (raised_pairs c.args.by) c.pairs.ensures.value)) (raised_rise c.args.by c.args.row.now c.requires.kept);
}

pub returns-in-Ok : goal.returns-in-Ok
returns-in-Ok c =
    let row = c.args.row.now in
    c.in-Ok.ensures.value
    ∙ made_is c.args.by row row.rel c.as_slice.result.now row.constant c.requires.kept refl (c.as_slice.ensures ∙ c.in_ok-pairs.ensures ∙ ap (raised_pairs c.args.by) c.pairs.ensures.value) refl

pub unreachable-requires : goal.unreachable-requires
unreachable-requires c =
    let row = c.args.row.now in
    never_outside c.args.by row row.rel c.as_slice.result.now row.constant c.requires.kept refl (c.as_slice.ensures ∙ c.in_ok-pairs.ensures ∙ ap (raised_pairs c.args.by) c.pairs.ensures.value) refl
    (c.with_pairs.ensures.overflow (c.in-Err-Overflow.is ∙ ap Err c.in-Err-Overflow.field-0-is))
